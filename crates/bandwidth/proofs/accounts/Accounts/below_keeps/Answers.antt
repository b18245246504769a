use Rattle.std.proofs.Common.{◌≡◌, refl, sym, ◌∙◌}
use Rattle.bandwidth.proofs.Pools.{below_as}
use Rattle.bandwidth.proofs.Spans.{shape_bytes}
use Rattle.bandwidth.proofs.accounts.Accounts.below_keeps.Goals as goal

pub returns-in_default-clause-tells : goal.returns-in_default-clause-tells
returns-in_default-clause-tells g c =
    let none = c.in_default.ensures in
    record { alone = λ e. refl; fits = λ number e. absurd cc; small = λ number e. absurd cc }

pub returns-clause-tells : goal.returns-clause-tells
returns-clause-tells g c =
    let w = c.args.want.now in
    let p = c.args.placement.now in
    let x = c.args.shape.now in
    let some = sym c.translator_for.ensures ∙ c.in-Some.is in
    record {
      alone = λ e. absurd cc;
      fits = λ h e.
          let same : c.in-Some.translator ≡ h = cc in
          rw (← same)
          (below_as _ _ _ _ _ p c.requires.shape.time (shape_bytes w x p c.requires.shape c.requires.place)
          c.translator_keeps.result c.translator_keeps.ensures.fits);
      small = λ h e. let same : c.in-Some.translator ≡ h = cc in rw (← same) c.translator_keeps.ensures.number;
    }
