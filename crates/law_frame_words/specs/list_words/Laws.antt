-- What holds of words that stand for a frame list, where something else is written.
--     StandsWhereLeft p        they stand for it wherever they are left as they were
--     LeftByStores p           a store to any other address leaves them
use Rattle.std.specs.Prelude.{◌≢◌, ℕ}
use Rattle.drv_chains.specs.declared.members.Predecessor.{Predecessor}
use Rattle.drv_periodic.specs.Periodic.{Periodic, address_of}
use Rattle.claims_driver.specs.FrameWords.{IsInOrder, StandFor}
use Rattle.law_frame_words.specs.frame_words.InWords.{with_value}
use Rattle.law_frame_words.specs.list_words.Spared.{IsItsWord, LeavesList}

abbrev pub StandsWhereLeft : Periodic → Type 0
StandsWhereLeft p = (word now : ℕ → ℕ) → IsInOrder p → LeavesList p word now → StandFor p word → StandFor p now

abbrev pub LeftByStores : Periodic → Type 0
LeftByStores p = (word : ℕ → ℕ) (at v : ℕ) → ((w : Predecessor) → IsItsWord p w → address_of p.list w ≢ at) → LeavesList p word (with_value word at v)
