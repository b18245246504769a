-- A driver that was just built.
use Rattle.std.proofs.Common.{◌≡◌, ℕ, zero, suc, [], Some, refl}
use Rattle.law_common.proofs.Lists.{nothing_at}
use Rattle.law_structures.specs.lent_structures.Structures.{StructureSets}
use Rattle.law_ring.specs.Hand.{Hand}
use Rattle.drv_table.specs.declared.content.Reserve.{Reserve}
use Rattle.drv_table.specs.Opening.{opening}
use Rattle.law_queues.specs.told_endpoints.Telling.{Named, named_in, TellsEach}
use Rattle.law_queues.specs.harvest_laws.Holds.{HoldsEach}

pub opening_holds : (n : ℕ) (room : Reserve) (hand : Hand) (parts : StructureSets) → HoldsEach (opening n room).driver hand parts (λ (e : ℕ). [])
opening_holds n room hand parts = record {
  next = λ e t x y is on. absurd (nothing_at e x is.endpoint);
  none = λ e x here last on. refl;
  to_come = λ t y here waits kept other. absurd (nothing_at t y here);
  within = λ t y here kept. absurd (nothing_at t y here);
}

none_named : (e : ℕ) (x : Named) → named_in [] e ≡ Some x → ⊥
none_named zero x is = cc
none_named (suc e) x is = cc

pub opening_tells : (n : ℕ) (room : Reserve) → TellsEach (opening n room).driver.reports (opening n room).driver.store (named_in (opening n room).driver.endpoints) (λ (e : ℕ). []) (λ (e : ℕ). [])
opening_tells n room = record {
  stored = tt;
  each = λ e x there on. absurd (none_named e x there);
  only = λ name others. refl;
  apart = λ e k x y here there alike. absurd (none_named e x here);
}
