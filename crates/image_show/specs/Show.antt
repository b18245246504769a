-- What holds of either error of showing.
use Rattle.image_show.specs.declared.failure.ShowError.{ShowError}
use Rattle.image_show.specs.declared.failure.ShowError.TheVariants.{Failed, Memory}

-- P, where the sink failed
abbrev pub OnFailed : ShowError → Type 0 → Type 0
OnFailed (Failed f) P = P
OnFailed (Memory m) P = Unit {0}

-- P, where memory was wanting
abbrev pub OnMemory : ShowError → Type 0 → Type 0
OnMemory (Failed f) P = Unit {0}
OnMemory (Memory m) P = P
