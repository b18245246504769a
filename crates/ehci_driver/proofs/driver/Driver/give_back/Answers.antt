use Rattle.std.proofs.Common.{◌≡◌, ◌<◌, ◌+◌, ◌-◌, length, ap, sym, ◌∙◌, arith}
use Rattle.drv_table.specs.DriverContent.{DriverContent}
use Rattle.drv_table.specs.Parts.{Parts}
use Rattle.drv_jobs.specs.Clearing.{released_from}
use Rattle.ehci_driver.specs.Turns.{parts}
use Rattle.ehci_driver.proofs.Cleared.{released_more, released_all}
use Rattle.ehci_driver.proofs.driver.Driver.give_back.Goals as goal

pub loop-t-preserved : goal.loop-t-preserved
loop-t-preserved c =
    let e = c.args.e in
    let t = c.loop-t.t in
    let n = c.len-count.result in
    let below : t < n = omega (arith, c.loop-t-test.true) in
    record {
      leads = λ r.
          ap (λ (p : Parts). released_from p e (t + 1) (n - (t + 1))) (c.release_if_held.ensures.parts r)
          ∙ released_more (parts c.loop-t.self r c.loop-t.mem) e t n below
          ∙ c.loop-t.invariant.leads r;
      count = c.release_if_held.ensures.count ∙ c.loop-t.invariant.count;
      endpoints = c.release_if_held.ensures.endpoints ∙ c.loop-t.invariant.endpoints;
      room = c.release_if_held.ensures.room ∙ c.loop-t.invariant.room;
      stands = c.release_if_held.ensures.stands;
    }

pub returns-clause-parts : goal.returns-clause-parts
returns-clause-parts c = λ r.
    let e = c.args.e in
    let n = c.len-count.result in
    let long : n ≡ length c.self.inside.transfers.items = omega (arith, c.len-count.ensures) in
    sym (released_all (parts c.loop-t.self r c.loop-t.mem) e c.loop-t.t n (omega (arith, c.loop-t-test.false)))
    ∙ c.loop-t.invariant.leads r
    ∙ ap (λ m. released_from (parts c.args.self.now r c.args.mem.now) e 0 m) (long ∙ ap (λ (d : DriverContent). length d.transfers)
    c.self.view_is)
