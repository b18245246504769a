use Rattle.std.proofs.lemmas.Result.{err_from_is_err_and}
use Rattle.std.proofs.Common.{◌≡◌, ℕ, ◌++◌, Some, ap, refl, codes}
use Rattle.image_show.specs.declared.image_at.ImageAt.{ImageAt}
use Rattle.image_show.specs.Text.{line}
use Rattle.link_words.specs.declared.kinds.Link.TheVariants as links
use Rattle.image_show.specs.Base.{lowered}
use Rattle.image_show.specs.Linked.{list_text}
use Rattle.image_show.specs.Shown.{chain, ring_text, seen_before}
use Rattle.image_codec.proofs.Paged.{on_cut, on_join}
use Rattle.image_show.proofs.frames.put_ring.Goals as goal

pub returns-in_err-put : goal.returns-in_err-put
unfolding ring_text
returns-in_err-put g c =
    let p = err_from_is_err_and c.from_residual.result c.from_residual.ensures.1 in
    rw p.1 (on_cut _ _ _ _ _ _ _ _ _ _
    (list_text (chain c.args.image.now.base c.args.image.now.words (Some (lowered c.args.image.now.base c.args.image.now.async_at)) (seen_before c.args.image.now 1024)) (links.Qh (lowered c.args.image.now.base c.args.image.now.async_at))) (ring_text c.args.image.now)
    c.in_err-put.ensures refl)

-- the ring's place is that of its address
ringed : (i : ImageAt) (place : ℕ) → place ≡ lowered i.base i.async_at
    → line (codes "async") ++ list_text (chain i.base i.words (Some place) (seen_before i 1024)) (links.Qh place) ≡ ring_text i
unfolding ring_text
ringed i place e =
    ap (λ (x : ℕ). line (codes "async") ++ list_text (chain i.base i.words (Some x) (seen_before i 1024)) (links.Qh x)) e

pub returns : goal.returns
returns g c =
    on_join _ _ _ _ _ _ _ _ _ _ _ _ (ring_text c.args.image.now) c.in_ok-put.ensures c.put_chain.ensures.printed
    (ringed c.args.image.now c.lowered-ring.result c.lowered-ring.ensures.place)
