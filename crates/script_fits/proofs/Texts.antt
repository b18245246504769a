-- The script that a text spells fits.
use Rattle.std.proofs.Common.{◌≡◌, ℕ, ◌+◌, ◌≤◌, ◌%◌, Bool, true, false, List, [], ◌∷◌, length, Option, Some, None, Result, Ok, Err, refl, subst, arith}
use Rattle.std.specs.Prelude.{if◌then◌else◌, nat_lt, nat_le, not, ◌==◌, map, unwrap_or, codes}
use Rattle.std.specs.List.{list_all, list_any, AllByRecursion}
use Rattle.std.specs.Str.{bytes_eq}
use Rattle.std.proofs.lemmas.Bool.{cond_both, and_from, le-leb}
use Rattle.script_types.specs.declared.scripts.Script.{Script}
use Rattle.script_types.specs.declared.devices.EpText.{EpText}
use Rattle.script_types.specs.declared.devices.HubText.{HubText}
use Rattle.hub_class.specs.HubContent.{has_few_ports}
use Rattle.script_forms.specs.declared.causes.TextWhy.{TextWhy}
use Rattle.script_forms.specs.declared.causes.TextWhy.TheVariants as C
use Rattle.script_forms.specs.declared.table.FirstWord.{FirstWord}
use Rattle.script_forms.specs.declared.table.Form.{Form}
use Rattle.script_forms.specs.declared.statements.Statement.{Statement}
use Rattle.script_forms.specs.Table.{first_in}
use Rattle.script_forms.specs.Fitting.{form_of}
use Rattle.script_forms.specs.Values.{statement_of}
use Rattle.script_world.specs.Draft.{Draft, Placed, empty, script_of, device_text}
use Rattle.script_world.specs.Ranges.{in_range}
use Rattle.script_world.specs.Rows.{cause_of, is_known, is_twice, has_room, is_late, after}
use Rattle.script_text.specs.Reading.{lines_in, words_in, says, may_stand, no_bytes, answer, said, form_read, first_read, words_read, version_read, line_read, onward, lines_read, script_after}
use Rattle.script_text.specs.Reading.{text_read, script_read}
use Rattle.script_text.specs.Faults.{Spells}
use Rattle.endpoint_script.specs.Items.{is_short}
use Rattle.endpoint_script.specs.Device.{is_scripted, is_scripted_endpoint}
use Rattle.script_fits.specs.Fits.{IsFit, IsFitRoom}
use Rattle.script_fits.proofs.Numbers.{form_is_ranged}
use Rattle.script_fits.proofs.Statements.{IsSaid, form_said}
use Rattle.script_fits.proofs.Drafts.{IsFitDraft, IsFitHub, IsFitDevice, IsFitEp, IsFitSize, after_fits}

abbrev Fits : {X : Type 0} → Result Draft X → Type 0
Fits (Ok w) = IsFitDraft w
Fits (Err x) = Unit {0}

-- ---- a line

-- where a line has no cause it is in range
in_range_by : (a b c d : Bool)
    → (if not a then Some C.Range else if not b then Some C.Unknown else if c then Some C.Twice else if not d then Some C.Limit else None) ≡ None
    → a ≡ true
in_range_by false b c d h = cc
in_range_by true b c d h = refl

is_taken : (w : Draft) (s : Statement) → cause_of w s ≡ None → in_range w s ≡ true
is_taken w s e = in_range_by (in_range w s) (is_known w s) (is_twice w s) (has_room w s) e

answer_fits : (why : Option TextWhy) (v : Draft) → (why ≡ None → IsFitDraft v) → Fits (answer why v)
answer_fits None v h = h refl
answer_fits (Some why) v h = tt

said_fits : (w : Draft) (n : ℕ) (s : Statement) → IsSaid s → IsFitDraft w → Fits (said w n s)
said_fits w n s is h = answer_fits (cause_of w s) (after w n s) (λ e. after_fits w n s (is_taken w s e) is h)

form_fits : (w : Draft) (n : ℕ) (first : FirstWord) (more : List (List ℕ)) (form : Result Form TextWhy)
    → form_of w.version first more ≡ form → IsFitDraft w → Fits (form_read w n more form)
form_fits w n first more (Ok form) e h =
    said_fits w n (statement_of form more) (form_said form more (form_is_ranged w.version first more form e)) h
form_fits w n first more (Err why) e h = tt

first_fits : (w : Draft) (n : ℕ) (more : List (List ℕ)) (first : Option FirstWord) → IsFitDraft w → Fits (first_read w n more first)
first_fits w n more None h = tt
first_fits w n more (Some first) h =
    cond_both (is_late w first) (Err C.Late) (form_read w n more (form_of w.version first more)) Fits
    (λ _. tt) (λ _. form_fits w n first more (form_of w.version first more) refl h)

words_fit : (w : Draft) (n : ℕ) (ws : List (List ℕ)) → IsFitDraft w → Fits (words_read w n ws)
words_fit w n [] h = tt
words_fit w n (first ∷ more) h =
    cond_both (list_any no_bytes (first ∷ more)) (Err C.Word) (first_read w n more (first_in w.version first)) Fits
    (λ _. tt) (λ _. first_fits w n more (first_in w.version first) h)

version_fits : (w : Draft) (line : List ℕ) → IsFitDraft w → Fits (version_read w line)
version_fits w line h =
    cond_both (bytes_eq line (codes "ehci 1")) (Ok w) _ Fits (λ _. h)
    (λ _. cond_both (bytes_eq line (codes "ehci 2")) (Ok (record w { version = 2 })) (Err C.Version) Fits
    (λ _. record { words = h.words; hubs = h.hubs; devices = h.devices; lines = h.lines }) (λ _. tt))

line_fits : (w : Draft) (n : ℕ) (line : List ℕ) → IsFitDraft w → Fits (line_read w n line)
line_fits w n line h =
    cond_both (nat_lt 65535 (length line)) (Err C.Long) _ Fits (λ _. tt)
    (λ _. cond_both (not (list_all may_stand line)) (Err C.Byte) _ Fits (λ _. tt)
    (λ _. cond_both (n == 1) (version_read w line) _ Fits (λ _. version_fits w line h)
    (λ _. cond_both (says line) (words_read w n (words_in line)) (Ok w) Fits (λ _. words_fit w n (words_in line) h) (λ _. h))))

-- ---- a text

onward_fits : (n : ℕ) (x : Result Draft TextWhy) (next : Draft → Result Draft (ℕ × TextWhy)) → ((v : Draft) → IsFitDraft v → Fits (next v)) → Fits x → Fits (onward n x next)
onward_fits n (Ok w) next g h = g w h
onward_fits n (Err why) next g h = tt

lines_fit : (w : Draft) (n : ℕ) (lines : List (List ℕ)) → IsFitDraft w → Fits (lines_read w n lines)
lines_fit w n [] h = h
lines_fit w n (line ∷ lines) h =
    onward_fits n (line_read w n line) (λ v. lines_read v (n + 1) lines) (λ v k. lines_fit v (n + 1) lines k) (line_fits w n line h)

empty_fits : IsFitDraft empty
empty_fits = record { words = tt; hubs = tt; devices = tt; lines = tt }

text_fits : (text : List ℕ) → Fits (text_read text)
text_fits text =
    cond_both (nat_lt 1048576 (length text)) (Err (0, C.Long)) _ Fits (λ _. tt)
    (λ _. cond_both (no_bytes text) (Ok empty) (lines_read empty 1 (lines_in text)) Fits (λ _. empty_fits) (λ _. lines_fit empty 1 (lines_in text) empty_fits))

-- ---- its script

eps_scripted : (es : List EpText) → AllByRecursion IsFitEp es → list_all is_scripted_endpoint es ≡ true
eps_scripted [] h = refl
eps_scripted (e ∷ es) h =
    and_from (is_scripted_endpoint e) (list_all is_scripted_endpoint es)
    (and_from (nat_le e.desc.max 1024) (list_all is_short e.items) (le-leb e.desc.max 1024 h.0.desc.max) h.0.items)
    (eps_scripted es h.1)

devices_scripted : (ds : List Placed) → AllByRecursion IsFitDevice ds → list_all is_scripted (map device_text ds) ≡ true
devices_scripted [] h = refl
devices_scripted (d ∷ ds) h = and_from (is_scripted (device_text d)) (list_all is_scripted (map device_text ds)) (eps_scripted d.eps h.0.eps) (devices_scripted ds h.1)

eps_roomy : (es : List EpText) → AllByRecursion IsFitEp es → AllByRecursion IsFitRoom es
eps_roomy [] h = tt
eps_roomy (e ∷ es) h = (h.0.room, eps_roomy es h.1)

devices_roomy : (ds : List Placed) → AllByRecursion IsFitDevice ds → AllByRecursion (λ d. AllByRecursion IsFitRoom d.eps) (map device_text ds)
devices_roomy [] h = tt
devices_roomy (d ∷ ds) h = (eps_roomy d.eps h.0.eps, devices_roomy ds h.1)

hubs_few : (hs : List HubText) → AllByRecursion IsFitHub hs → list_all has_few_ports hs ≡ true
hubs_few [] h = refl
hubs_few (x ∷ hs) h = and_from (has_few_ports x) (list_all has_few_ports hs) (le-leb (length x.attached) 15 h.0.attached) (hubs_few hs h.1)

sized : (words : Option ℕ) → IsFitSize words → (2048 ≤ unwrap_or words 65536) × ((unwrap_or words 65536 ≤ 262144) × (unwrap_or words 65536 % 1024 ≡ 0))
sized None h = (omega arith, (omega arith, refl))
sized (Some n) h = h

script_fits : (w : Draft) → IsFitDraft w → IsFit (script_of w)
script_fits w h =
    let size = sized w.words h.words in
    record {
      least = size.0;
      most = size.1.0;
      whole_pages = size.1.1;
      devices = devices_scripted w.devices h.devices;
      hubs = hubs_few w.hubs h.hubs;
      rooms = devices_roomy w.devices h.devices;
      lines = h.lines;
    }

abbrev FitsScript : Result Script (ℕ × TextWhy) → Type 0
FitsScript (Ok s) = IsFit s
FitsScript (Err fault) = Unit {0}

after_text : (x : Result Draft (ℕ × TextWhy)) → Fits x → FitsScript (script_after x)
after_text (Ok w) h = script_fits w h
after_text (Err fault) h = tt

-- the script that a text spells
pub spelled_fits : (text : List ℕ) (s : Script) → Spells text s → IsFit s
unfolding script_read
spelled_fits text s e = subst FitsScript e (after_text (text_read text) (text_fits text))
