use Rattle.std.proofs.lemmas.Result.{err_from_is_err_and}
use Rattle.std.proofs.Common.{length, ap, ◌∙◌, ◌++◌, ◌<◌, List, ℕ, arith, take, drop, ◌+◌}
use Rattle.std.specs.List.{flat_map}
use Rattle.image_codec.specs.Image.{field_bytes}
use Rattle.image_codec.proofs.Passing.{passes_all, flat_map-at, flat_map-more}
use Rattle.image_codec.proofs.Paged.{on_stop}
use Rattle.image_codec.proofs.writing.put_words.Goals as goal

pub returns-in_err-put : goal.returns-in_err-put
returns-in_err-put g c =
    let at : c.loop-word.word-index < length c.args.words.now = omega arith in
    let rest = flat_map field_bytes (drop (c.loop-word.word-index + 1) c.args.words.now) in
    let front = flat_map field_bytes (take c.loop-word.word-index c.args.words.now) in
    let whole = ap (λ (t : List ℕ). front ++ (t ++ rest)) c.bytes_of.ensures ∙ flat_map-at field_bytes c.args.words.now c.loop-word.word-index 0 at in
    let p = err_from_is_err_and c.from_residual.result c.from_residual.ensures.1 in
    rw p.1 (on_stop _ _ _ _ _ _ _ _ _ _ _ front c.bytes_of.result rest _ c.loop-word.invariant.passed c.loop-word.invariant.same c.in_err-put.ensures whole)

pub loop-word-preserved : goal.loop-word-preserved
loop-word-preserved g c =
    let at : c.loop-word.word-index < length c.args.words.now = omega arith in
    let front = flat_map field_bytes (take c.loop-word.word-index c.args.words.now) in
    let more = ap (λ (t : List ℕ). front ++ t) c.bytes_of.ensures ∙ flat_map-more field_bytes c.args.words.now c.loop-word.word-index 0 at in
    record {
      passed = passes_all _ _ _ _ _ _ front c.bytes_of.result _ c.loop-word.invariant.passed c.in_ok-put.ensures.ok more;
      counted = omega arith;
      same = c.in_ok-put.ensures.stays ∙ c.loop-word.invariant.same;
    }
