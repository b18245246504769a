-- What is given back the controller touches no more until it is lent again.
use Rattle.std.proofs.Common.{◌≡◌, ◌≢◌, ℕ, Some, subst}
use Rattle.std.proofs.Common.{arith}
use Rattle.word_mem.specs.declared.blocks.BlockState.TheVariants.{Lent}
use Rattle.word_mem.specs.Memory.{Mem, state_at}
use Rattle.word_mem.proofs.Frames.{lent_if_reached}
use Rattle.bus_wire.specs.Bus.{Fixed, fixed_of}
use Rattle.bus_world.specs.Budgets.{moment}
use Rattle.bus_world.specs.World.{World}
use Rattle.claims_base.specs.Controller.{IsSameWhereLent}
use Rattle.claims_world.specs.Lent.{KeepsToLent}
use Rattle.claims_world.specs.Releases.{IsSameBut, LeavesBlock}
use Rattle.law_world.specs.memory.Releases.{KeptToLentStaysUntouched, ScriptsLeaveWhatIsBack}
use Rattle.law_world.proofs.lemmas.memory.lemmas.worlds_keep_to_lent.Moments.{each_moment_keeps_to_lent_blocks}

module _ (w : World) (b : ℕ) (unlent : state_at w.memory b ≢ Some Lent) where
  same_where_lent : (m : Mem) → IsSameBut b w.memory m → IsSameWhereLent w.memory m
  same_where_lent m same = record {
    states = same.states;
    size = same.size;
    refusals = same.refusals;
    words = λ at reached.
        same.words at (λ is. unlent (subst (λ (c : ℕ). state_at w.memory c ≡ Some Lent) is (lent_if_reached w.memory at reached)));
  }

  leaves_block : (fixed : Fixed) → KeepsToLent fixed w → LeavesBlock fixed w b
  leaves_block fixed keeps = record {
    writes = λ i few. keeps.writes.words b i unlent few;
    reads = λ m same. keeps.reads m (same_where_lent m same);
  }

pub kept_to_lent_stays_untouched : KeptToLentStaysUntouched
kept_to_lent_stays_untouched = λ s keeps k b i given past unlent.
    leaves_block (moment s i).world b (unlent i past (omega arith)) (fixed_of s) (keeps i)

pub scripts_leave_what_is_back : ScriptsLeaveWhatIsBack
scripts_leave_what_is_back = λ s fit. kept_to_lent_stays_untouched s (each_moment_keeps_to_lent_blocks s fit)
