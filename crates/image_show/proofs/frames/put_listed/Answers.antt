use Rattle.std.proofs.lemmas.Result.{err_from_is_err_and}
use Rattle.std.proofs.Common.{ap, ◌∙◌, ℕ, List, ◌++◌, None}
use Rattle.image_show.specs.Linked.{list_text}
use Rattle.image_show.specs.Shown.{chain, seen_before}
use Rattle.image_codec.proofs.Paged.{on_cut, on_join}
use Rattle.image_show.proofs.frames.put_listed.Goals as goal

pub returns-in_err-put-clause-printed : goal.returns-in_err-put-clause-printed
returns-in_err-put-clause-printed g c =
    let p = err_from_is_err_and c.from_residual.result c.from_residual.ensures.1 in
    let listed = list_text (chain c.args.image.now.base c.args.image.now.words None (seen_before c.args.image.now c.args.n)) c.args.first in
    rw p.1 (on_cut _ _ _ _ _ _ _ _ _ c.as_slice.result.now listed _ c.in_err-put.ensures
    (ap (λ (x : List ℕ). x ++ listed) (c.as_slice.ensures.bytes ∙ c.line_of_frame.ensures)))

pub returns-clause-printed : goal.returns-clause-printed
returns-clause-printed g c =
    let listed = list_text (chain c.args.image.now.base c.args.image.now.words None (seen_before c.args.image.now c.args.n)) c.args.first in
    on_join _ _ _ _ _ _ _ _ _ _ c.as_slice.result.now listed _ c.in_ok-put.ensures c.put_chain.ensures.printed
    (ap (λ (x : List ℕ). x ++ listed) (c.as_slice.ensures.bytes ∙ c.line_of_frame.ensures))
