-- The worked write-back can be made.
use Rattle.std.proofs.Common.{ℕ, zero, suc, ◌<◌, slice_index, refl, arith}
use Rattle.qh_qtd.specs.QueueHead.{qh_words, IsQhInRange}
use Rattle.law_structures.specs.lent_structures.StructureSamples.{queue, element, parts}
use Rattle.law_structures.proofs.lemmas.lent_structures.StructureSampled.{queue_range}
use Rattle.law_structures.specs.lent_structures.WriteBack.{IsCopy, CanBeWritten}
use Rattle.law_structures.specs.lent_structures.WriteBackSamples.{settled, got, into}

settled_range : IsQhInRange settled
settled_range = let (link, (chars, (caps, (current, (next, (alternate, (token, rest))))))) = queue_range in ((refl, (omega arith, tt)), (chars, (caps, (current, (next, (alternate, ((omega arith, (omega arith, (omega arith, (omega arith, tt)))), rest)))))))

small : (i : ℕ) → slice_index got i < 256
small (suc zero) = omega arith
small _ = omega arith

copy : IsCopy parts 0 0 queue settled
unfolding qh_words
copy = record { head = refl; range = settled_range; front = refl }

pub can_be_written : CanBeWritten parts 0 0 queue settled got into element
can_be_written = record {
  copy = copy;
  element = refl;
  received = record { buffer = refl; pages_are = refl; place_is = refl; fits = omega arith; bytes = small };
}
