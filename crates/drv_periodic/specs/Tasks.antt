-- What the code keeps of what is under way.
--     IsTask s t     the member is in the schedule; the value is the one to store; the next word and those that the search has still to find
--                    are those that aren't stored yet
use Rattle.std.specs.Prelude.{◌≡◌, true, ◌∷◌, map, drop, Option, Some, None, option_map}
use Rattle.drv_chains.specs.Chains.{Schedule}
use Rattle.drv_search.specs.Search.{words_left, word_of, IsSearch}
use Rattle.drv_members.specs.Members.{IsMember, is_linked}
use Rattle.drv_periodic.specs.declared.work.Work.{Work}
use Rattle.drv_periodic.specs.declared.work.Task.{Task}
use Rattle.drv_periodic.specs.Periodic.{words_of, value_of}

pub record IsTask (s : Schedule) (t : Task) : Type 0 where
  pub member : IsMember t.work.member
  pub linked : is_linked s t.work.member ≡ true
  pub value : t.value ≡ value_of s t.work
  pub words : drop t.work.made (words_of s t.work) ≡ t.word ∷ map (word_of s) (words_left s t.search)
  pub search : IsSearch t.search

abbrev pub AreTasks : Schedule → Option Task → Type 0
AreTasks s None = Unit {0}
AreTasks s (Some t) = IsTask s t

abbrev pub works_of : Option Task → Option Work
works_of o = option_map (λ t. t.work) o
