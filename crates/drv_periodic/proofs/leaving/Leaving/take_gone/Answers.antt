use Rattle.std.proofs.Common.{◌≡◌, ap, ◌∙◌, arith}
use Rattle.std.specs.List.{position_or_len}
use Rattle.drv_periodic.specs.Left.{is_gone, first_gone}
use Rattle.drv_periodic.proofs.Gone.{none_gone, one_gone}
use Rattle.drv_periodic.proofs.leaving.Leaving.take_gone.Goals as goal

pub returns-then-place-len-clause-gone : goal.returns-then-place-len-clause-gone
returns-then-place-len-clause-gone c =
    let ds = c.self.inside.departures.items in
    let place : c.gone_place-place.result ≡ position_or_len is_gone ds = c.gone_place-place.ensures.place ∙ ap (λ xs. position_or_len is_gone xs) c.deref.ensures.value in
    none_gone ds (omega (arith, place)) ∙ ap first_gone c.self.view_is

pub returns-clause-gone : goal.returns-clause-gone
returns-clause-gone c =
    let ds = c.self.inside.departures.items in
    let place : c.gone_place-place.result ≡ position_or_len is_gone ds = c.gone_place-place.ensures.place ∙ ap (λ xs. position_or_len is_gone xs) c.deref.ensures.value in
    one_gone ds c.gone_place-place.result c.remove-departure.result place (omega arith) c.remove-departure.ensures.value ∙ ap first_gone c.self.view_is
