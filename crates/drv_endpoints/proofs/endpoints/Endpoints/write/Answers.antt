use Rattle.std.proofs.Common.{◌<◌, Bool, length, nat_eq, ap, ◌∙◌, arith}
use Rattle.std.specs.Prelude.{if◌then◌else◌}
use Rattle.std.proofs.lemmas.List.{length-set}
use Rattle.drv_endpoints.specs.Working.{Roster, bit_of}
use Rattle.drv_endpoints.proofs.Workers.{set_written}
use Rattle.drv_endpoints.proofs.endpoints.Endpoints.write.Goals as goal

pub invariant_of-self : goal.invariant_of-self
invariant_of-self c =
    let within : c.args.e < length c.self.inside.all.items = omega (arith, ap (λ (r : Roster). length r.items) c.self.view_is, c.requires) in
    let long = length-set c.self.inside.all.items c.args.e c.args.endpoint in (
      set_written c.self.inside.all.items c.self.inside.working.items c.write_bit.new.words.items c.args.e c.args.endpoint within c.self.invariant.0
          (λ k. c.write_bit.ensures.bits k ∙ ap (λ (b : Bool). if nat_eq k c.args.e then (if b then 1 else 0) else bit_of c.self.inside.working.items k) c.has_work-works.ensures),
      omega (arith, long, c.self.invariant.1),
      omega (arith, c.write_bit.ensures.len, c.self.invariant.2),
      omega (arith, c.write_bit.ensures.len, c.self.invariant.3),
    )
