use Rattle.std.proofs.lemmas.Result.{err_from_is_err_and}
use Rattle.std.proofs.Common.{refl, ap, ◌∙◌, ◌≡◌, ℕ, List, ◌++◌, codes}
use Rattle.image_show.specs.declared.ending.Ending.TheVariants as endings
use Rattle.image_show.specs.Linked.{ending_line}
use Rattle.image_show.specs.Shown.{frame_line, outside_text}
use Rattle.image_codec.proofs.Paged.{on_cut, on_join}
use Rattle.image_show.proofs.frames.put_outside.Goals as goal

-- both lines
both : (n at : ℕ) (first second : List ℕ) → first ≡ frame_line n → second ≡ ending_line (codes "  ") (endings.Outside at) → first ++ second ≡ outside_text n at
unfolding outside_text
both n at first second f s = ap (λ (x : List ℕ). x ++ second) f ∙ ap (λ (x : List ℕ). frame_line n ++ x) s

pub returns-in_err-put : goal.returns-in_err-put
returns-in_err-put g c =
    let p = err_from_is_err_and c.from_residual.result c.from_residual.ensures.1 in
    rw p.1 (on_cut _ _ _ _ _ _ _ _ _ c.as_slice.result.now (ending_line (codes "  ") (endings.Outside c.args.at)) _ c.in_err-put.ensures
    (both c.args.n c.args.at c.as_slice.result.now _ (c.as_slice.ensures.bytes ∙ c.line_of_frame.ensures) refl))

pub returns : goal.returns
returns g c =
    on_join _ _ _ _ _ _ _ _ _ _ c.as_slice.result.now c.as_slice-2.result.now _ c.in_ok-put.ensures c.put-2.ensures
    (both c.args.n c.args.at c.as_slice.result.now c.as_slice-2.result.now (c.as_slice.ensures.bytes ∙ c.line_of_frame.ensures) (c.as_slice-2.ensures.bytes ∙ c.line_of_ending.ensures))
