-- Endpoints that a walk can't meet any more.
use Rattle.std.proofs.Common.{◌≡◌, ℕ, ◌≤◌, ◌||◌, Bool, true, false, cond, slice_get, Some, ap, refl, arith}
use Rattle.std.proofs.lemmas.Bool.{false≢true}
use Rattle.law_driver.proofs.Common.{times_of}
use Rattle.law_queues.proofs.Common.{not_one}
use Rattle.drv_table.specs.declared.content.Endpoint.{Endpoint}
use Rattle.drv_table.specs.DriverContent.{DriverContent}
use Rattle.law_driver.specs.endpoint_lives.Lives.{may_meet}
use Rattle.law_driver.proofs.lemmas.endpoint_lives.Lives.{past_unmet}
use Rattle.claims_driver.specs.Leaving.{leaves_ring, HasOwners}

-- what an endpoint owes is at most one release, and none while it is linked or once it was given back
at_most : (a b c : Bool) → cond (a || b || c) 0 1 ≤ 1
at_most true b c = omega arith
at_most false true c = omega arith
at_most false false true = omega arith
at_most false false false = omega arith

unlinked_by : (a b c : Bool) → 1 ≤ cond (a || b || c) 0 1 → a ≡ false
unlinked_by true b c some = absurd (omega (arith, some))
unlinked_by false b c some = refl

gone_by : (a b c : Bool) → b ≡ true → ◌≡◌ {A = ℕ} (cond (a || b || c) 0 1) 0
gone_by true b c is = refl
gone_by false true c is = refl
gone_by false false c is = absurd (false≢true is)

pub cleared_are_unmet : (d : DriverContent) (i e : ℕ) (x : Endpoint) → HasOwners d → slice_get d.cleared i ≡ Some e → slice_get d.endpoints e ≡ Some x → may_meet d e x ≡ false
cleared_are_unmet d i e x owners first here =
    let some = times_of d.cleared i e first in
    let all = owners.orderly.leaving e in
    let owed : leaves_ring (slice_get d.endpoints e) ≡ leaves_ring (Some x) = ap leaves_ring here in
    let most : leaves_ring (Some x) ≤ 1 = at_most x.linked x.gone _ in
    let one : 1 ≤ leaves_ring (Some x) = omega (arith, some, all, owed) in
    past_unmet d e x (record {
      unlinked = unlinked_by x.linked x.gone _ one;
      waits = not_one e d.waiting (omega (arith, some, all, owed, most));
      rung = not_one e d.rung (omega (arith, some, all, owed, most));
    })

pub gone_are_unmet : (d : DriverContent) (e : ℕ) (x : Endpoint) → HasOwners d → slice_get d.endpoints e ≡ Some x → x.gone ≡ true → may_meet d e x ≡ false
gone_are_unmet d e x owners here gone =
    let all = owners.orderly.leaving e in
    let owed : leaves_ring (slice_get d.endpoints e) ≡ leaves_ring (Some x) = ap leaves_ring here in
    let none : leaves_ring (Some x) ≡ 0 = gone_by x.linked x.gone _ gone in
    past_unmet d e x (record {
      unlinked = ((owners.orderly.steady e x here).gone gone).0;
      waits = not_one e d.waiting (omega (arith, all, owed, none));
      rung = not_one e d.rung (omega (arith, all, owed, none));
    })
