use Rattle.std.proofs.Common.{◌≡◌, ◌++◌, ◌∷◌, [], Some, slice_get, arith, ap, subst, sym, ◌∙◌}
use Rattle.bus_wire.specs.Seats.{place_at}
use Rattle.bus_wire.proofs.Table.{get_pushed}
use Rattle.bus_wire.proofs.places.Places.build.Goals as goal

pub loop-key-preserved : goal.loop-key-preserved
loop-key-preserved c = record {
  count = grind (arith, c.push_reserved.ensures.len, c.loop-key.invariant.count);
  room = grind (arith, c.push_reserved.ensures.capacity, c.loop-key.invariant.room);
  each = λ k h.
      subst (λ xs. slice_get xs k ≡ Some (place_at c.args.seats.items k)) (sym (c.push_reserved.ensures.items ∙ ap (λ v. c.loop-key.table.items ++ v ∷ []) (c.find.ensures ∙ ap (λ seats. place_at seats c.loop-key.key) c.deref.ensures.value)))
      (get_pushed (place_at c.args.seats.items) c.loop-key.table.items c.loop-key.key c.loop-key.invariant.count c.loop-key.invariant.each k h);
}

pub invariant_of-result : goal.invariant_of-result
invariant_of-result c = record { size = omega (arith, c.loop-key.invariant.count); each = λ key h. c.loop-key.invariant.each key (omega arith) }
