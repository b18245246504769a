-- How a program that reads all of its input and then writes its output ends, in what it leaves of its source and its sink.
--     IsLeft status xs after         what is left of a source that had xs
--     IsFault status before after    the source's count of faults: one more exactly where reading failed
--     IsWriteFault status before after   the same of the sink's count and writing
--     WritesNothing status           the ends with which nothing is written
--     IsTold status ..               a text was written, or a front part of it where the sink failed
--     ExitsBy code ..                an exit status is that of an end, and tells so whether a read or a write failed
use Rattle.std.specs.Prelude.{◌≡◌, ℕ, ◌≤◌, List, drop, Option, Some}
use Rattle.std.specs.Io.KnownBytes.{Appends}
use Rattle.usb_base.specs.Outside.{AppendsPrefix, one_more}
use Rattle.app_ends.specs.Codes.{exit_code}
use Rattle.app_ends.specs.Input.{input_limit, rest_of}
use Rattle.app_ends.specs.declared.status.Status.{Status}
use Rattle.app_ends.specs.declared.status.Status.TheVariants.{Ok, Words, Refused, ReadFault, WriteFault, Memory}

-- at most as many bytes were read as make an input
abbrev pub IsReadInPart : List ℕ → Option (List ℕ) → Type 0
IsReadInPart xs after = (n : ℕ) × (n ≤ input_limit) × (after ≡ Some (drop n xs))

abbrev pub IsLeft : Status → List ℕ → Option (List ℕ) → Type 0
IsLeft Ok xs after = after ≡ Some (rest_of xs)
IsLeft Refused xs after = after ≡ Some (rest_of xs)
IsLeft WriteFault xs after = after ≡ Some (rest_of xs)
IsLeft Words xs after = after ≡ Some xs
IsLeft ReadFault xs after = IsReadInPart xs after
IsLeft Memory xs after = IsReadInPart xs after

abbrev pub IsFault : Status → ℕ → ℕ → Type 0
IsFault ReadFault before after = after ≡ one_more before
IsFault Ok before after = after ≡ before
IsFault Refused before after = after ≡ before
IsFault WriteFault before after = after ≡ before
IsFault Words before after = after ≡ before
IsFault Memory before after = after ≡ before

abbrev pub IsWriteFault : Status → ℕ → ℕ → Type 0
IsWriteFault WriteFault before after = after ≡ one_more before
IsWriteFault Ok before after = after ≡ before
IsWriteFault Refused before after = after ≡ before
IsWriteFault ReadFault before after = after ≡ before
IsWriteFault Words before after = after ≡ before
IsWriteFault Memory before after = after ≡ before

abbrev pub WritesNothing : Status → Type 0
WritesNothing Words = Unit {0}
WritesNothing ReadFault = Unit {0}
WritesNothing Memory = Unit {0}
WritesNothing Ok = ⊥
WritesNothing Refused = ⊥
WritesNothing WriteFault = ⊥

abbrev pub IsTold : Status → Option (List ℕ) → Option (List ℕ) → List ℕ → Type 0
IsTold Ok old new text = Appends old new text
IsTold WriteFault old new text = AppendsPrefix old new text
IsTold Refused old new text = ⊥
IsTold ReadFault old new text = ⊥
IsTold Words old new text = ⊥
IsTold Memory old new text = ⊥

pub record ExitsBy (code reads_before reads_after writes_before writes_after : ℕ) : Type 0 where
  pub status : Status
  pub code_is : code ≡ exit_code status
  pub read : IsFault status reads_before reads_after
  pub write : IsWriteFault status writes_before writes_after
