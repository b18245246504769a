-- A wire on which everything is silent.
--     may_be_used ..     the bus may be used in the microframe
--     is_silent ..       no answer comes to what was asked
use Rattle.std.specs.Prelude.{◌≡◌, ℕ, Bool, true, List}
use Rattle.usb_base.specs.declared.packets.Ask.{Ask}
use Rattle.usb_base.specs.declared.packets.Reply.{Reply}
use Rattle.usb_base.specs.declared.packets.Reply.TheVariants.{Silent}

abbrev pub may_be_used : {W : Type 0} → W → ℕ → Bool → W → Type 0
may_be_used before index allowed after = allowed ≡ true

abbrev pub is_silent : {W : Type 0} → W → Ask → List ℕ → Reply → W → Type 0
is_silent before ask out reply after = reply ≡ Silent
