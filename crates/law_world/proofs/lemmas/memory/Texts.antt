-- The numbers of what a script opens fit their fields, where a text spells the script.
use Rattle.std.proofs.Common.{ℕ, List, [], ◌∷◌, Result, Ok, Err, subst}
use Rattle.std.specs.List.{AllByRecursion}
use Rattle.usb_base.specs.declared.commands.Cmd.{Cmd}
use Rattle.usb_base.specs.declared.commands.Cmd.TheVariants as cmd
use Rattle.script_types.specs.declared.scripts.Line.{Line}
use Rattle.script_types.specs.declared.scripts.Line.TheVariants as lines
use Rattle.script_types.specs.declared.scripts.Script.{Script}
use Rattle.script_forms.specs.declared.causes.TextWhy.{TextWhy}
use Rattle.script_world.specs.Draft.{Draft, empty}
use Rattle.script_text.specs.Reading.{script_after, text_read, script_read}
use Rattle.script_text.specs.Faults.{Spells}
use Rattle.law_scripts.specs.Numbers.{NumbersLine}
use Rattle.law_scripts.proofs.Texts.{text_keeps, a_text_numbers_what_it_opens}
use Rattle.law_driver_ring.specs.walk_members.Reached.{OpensNumbered as OpensNamed}
use Rattle.law_world.specs.memory.framed_memory.IsochronousLaws.{OpensNumbered}
use Rattle.law_world.specs.memory.Scripts.{FitsLine, TextsFit}
use Rattle.law_world.proofs.lemmas.memory.Hubs.{OpensBelow, BelowLine, IsBelowDraft, after_below_hubs}

-- ---- hubs

abbrev BelowRun : Result Script (ℕ × TextWhy) → Type 0
BelowRun (Ok s) = AllByRecursion (λ x. BelowLine x.1) s.lines
BelowRun (Err fault) = Unit {0}

abbrev KeepsBelow : Result Draft (ℕ × TextWhy) → Type 0
KeepsBelow (Ok w) = IsBelowDraft w
KeepsBelow (Err fault) = Unit {0}

after_text : (x : Result Draft (ℕ × TextWhy)) → KeepsBelow x → BelowRun (script_after x)
after_text (Ok w) h = h.lines
after_text (Err fault) h = tt

empty_below : IsBelowDraft empty
empty_below = record { devices = tt; lines = tt }

second_below : (w : Draft) → IsBelowDraft w → IsBelowDraft (record w { version = 2 })
second_below w h = record { devices = h.devices; lines = h.lines }

spelled_below : (text : List ℕ) (s : Script) → Spells text s → AllByRecursion (λ x. BelowLine x.1) s.lines
unfolding script_read
spelled_below text s e = subst BelowRun e (after_text (text_read text) (text_keeps IsBelowDraft second_below after_below_hubs text empty_below))

-- ---- with the numbers

command_fits : (c : Cmd) → OpensNamed c → OpensBelow c → OpensNumbered c
command_fits (cmd.OpenEp x) named below = record { addr = named.0; num = named.1; hub = below }
command_fits _ named below = tt

line_fits : (l : Line) → NumbersLine l → BelowLine l → FitsLine l
line_fits (lines.Command c) named below = command_fits c named below
line_fits _ named below = tt

lines_fit : (xs : List (ℕ × Line)) → AllByRecursion (λ x. NumbersLine x.1) xs → AllByRecursion (λ x. BelowLine x.1) xs → AllByRecursion (λ x. FitsLine x.1) xs
lines_fit [] named below = tt
lines_fit (x ∷ xs) named below = (line_fits x.1 named.0 below.0, lines_fit xs named.1 below.1)

pub texts_fit : TextsFit
texts_fit text s spelled = lines_fit s.lines (a_text_numbers_what_it_opens text s spelled) (spelled_below text s spelled)
