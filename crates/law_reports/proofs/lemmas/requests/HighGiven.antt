-- Each script that a text spells has for its control endpoints at high speed what its lines ask of them.
use Rattle.std.proofs.Common.{◌≡◌, ℕ, ◌≤◌, not, Bool, true, false, List, [], ◌∷◌, ap, refl, sym, subst, ◌∙◌, arith}
use Rattle.std.specs.Prelude.{is_some}
use Rattle.std.specs.List.{AllByRecursion}
use Rattle.std.proofs.lemmas.Bool.{false≢true, true≢false, and_parts}
use Rattle.law_common.proofs.Booleans.{not_on}
use Rattle.usb_base.specs.declared.commands.Cmd.TheVariants as cmd
use Rattle.usb_base.specs.declared.endpoints.EpDesc.{EpDesc}
use Rattle.usb_base.specs.declared.packets.Speed.TheVariants as speeds
use Rattle.script_types.specs.declared.scripts.Line.{Line}
use Rattle.script_types.specs.declared.scripts.Line.TheVariants as line
use Rattle.script_types.specs.declared.scripts.Script.{Script}
use Rattle.script_fits.specs.Fits.{IsFitLine}
use Rattle.script_fits.proofs.Texts.{spelled_fits}
use Rattle.claims_report.specs.Controls.{is_of_hub}
use Rattle.drv_table.specs.Words.{is_high}
use Rattle.law_devices.specs.declared_controls.Names.{HasItsName, NamesLine}
use Rattle.law_devices.specs.declared_controls.Opened.{HasItsControl, OpensItsControl}
use Rattle.law_devices.specs.declared_controls.Requests.{IsAsked, AsksLine}
use Rattle.law_devices.specs.declared_controls.Samples.{zero, reading}
use Rattle.law_devices.proofs.lemmas.declared_controls.Controls.{texts_open_controls, texts_name_endpoints, texts_ask_requests}
use Rattle.law_driver.specs.queued_drivers.Queued.{queued_desc, FitsKind}
use Rattle.law_world.specs.memory.Opens.{OpensMixed}
use Rattle.law_world.specs.steps.receiving_runs.Runs.{KindOfLine}
use Rattle.law_world.proofs.Common.{lines_can}
use Rattle.law_world.proofs.lemmas.memory.FittingTexts.{texts_open_fitting}
use Rattle.law_world.proofs.lemmas.memory.Texts.{texts_fit}
use Rattle.law_world.proofs.lemmas.memory.Together.{lines_fit}
use Rattle.law_reports.specs.requests.Asking.{IsGiven}
use Rattle.law_reports.specs.requests.Given.{is_of_device, its_kind, sides_of}
use Rattle.law_reports.specs.requests.HighAsking.{IsSuited}
use Rattle.law_reports.specs.requests.HighGiven.{high_sides_of, SuitsLine, TextsSuit, beat, beside_interrupt}
use Rattle.law_reports.proofs.lemmas.requests.Given.{Addressed, spelled_addressed, open_given}
use Rattle.law_reports.proofs.lemmas.requests.HighSteps.{high_is, told_as_is}

-- ---- an endpoint

module _ (s : Script) (x : EpDesc) (fits : FitsKind x) (below : is_some x.hub ≡ not (is_high x.speed)) (control : HasItsControl s x)
    (named : HasItsName x) (addressed : is_of_hub s x.name.addr ≡ false → 1 ≤ x.name.addr) where
  fast : (high_sides_of s).asks (queued_desc x) ≡ true → is_high x.speed ≡ true
  fast on = by (is_high x.speed) refl
    where
      alone : is_some x.hub ≡ false
      alone = not_on (is_some x.hub) (and_parts (is_of_device s (queued_desc x)) (not (is_some x.hub)) on).1

      by : (b : Bool) → is_high x.speed ≡ b → is_high x.speed ≡ true
      by true is = is
      by false is = absurd (true≢false (sym (below ∙ ap not is) ∙ alone))

  of_high : IsGiven (sides_of s) x → IsGiven (high_sides_of s) x
  of_high k = record {
    stages = k.stages;
    first = k.first;
    address = k.address;
    number = k.number;
    max = k.max;
    least = k.least;
    addressed = k.addressed;
    same = k.same;
    none = k.none;
    replies = k.replies;
  }

  given : (high_sides_of s).asks (queued_desc x) ≡ true → IsGiven (high_sides_of s) (queued_desc x)
  given on =
      let device : is_of_device s (queued_desc x) ≡ true = its_kind (is_of_device s (queued_desc x)) (not (is_some x.hub)) on in
      let same : queued_desc x ≡ x = told_as_is x fits ((sides_of s).controls (queued_desc x) device) (fast on) in
      subst (IsGiven (high_sides_of s)) (sym same)
      (of_high (open_given s x (high_is x.speed (fast on)) control named addressed
      (subst (λ (y : EpDesc). is_of_device s y ≡ true) same device)))

  pub suited : IsSuited (high_sides_of s) x
  suited = record { name = named.name; below = below; speed = fast; given = given }

-- ---- a line

record IsKnownLine (s : Script) (l : Line) : Type 0 where
  fits : KindOfLine OpensMixed l
  fit : IsFitLine l
  control : OpensItsControl s l
  named : NamesLine l
  asks : AsksLine l
  addressed : Addressed s l

line_suits : (s : Script) (l : Line) → IsKnownLine s l → SuitsLine (high_sides_of s) l
line_suits s (line.Command (cmd.OpenEp x)) k =
    record { opened = suited s x k.fits.kind k.fit.2.below k.control k.named k.addressed; asks = tt }
line_suits s (line.Command (cmd.Control name setup bytes)) k = record { opened = tt; asks = k.asks }
line_suits s (line.Order event n) k = tt
line_suits s (line.Micro n) k = tt
line_suits s (line.Plug n) k = tt
line_suits s (line.Unplug n) k = tt
line_suits s _ k = record { opened = tt; asks = tt }

lines_suit : (s : Script) (ls : List (ℕ × Line)) → AllByRecursion (λ l. KindOfLine OpensMixed l.1) ls
    → AllByRecursion (λ l. IsFitLine l.1) ls → AllByRecursion (λ l. OpensItsControl s l.1) ls → AllByRecursion (λ l. NamesLine l.1) ls
    → AllByRecursion (λ l. AsksLine l.1) ls → AllByRecursion (λ l. Addressed s l.1) ls
    → AllByRecursion (λ l. SuitsLine (high_sides_of s) l.1) ls
lines_suit s [] fits fit control named asks addressed = tt
lines_suit s (l ∷ ls) fits fit control named asks addressed = (
  line_suits s l.1
      (record { fits = fits.0; fit = fit.0; control = control.0; named = named.0; asks = asks.0; addressed = addressed.0 }),
  lines_suit s ls fits.1 fit.1 control.1 named.1 asks.1 addressed.1,
)

pub texts_suit : TextsSuit
texts_suit text s spelled =
    lines_suit s s.lines (lines_can s.lines (lines_fit s.lines (texts_fit text s spelled) (texts_open_fitting text s spelled)))
    (spelled_fits text s spelled).lines (texts_open_controls text s spelled) (texts_name_endpoints text s spelled).opened
    (texts_ask_requests text s spelled) (spelled_addressed text s spelled)

-- ---- worked

reads : IsAsked zero.name reading []
reads = record {
  zero = record { number = refl; way = refl };
  whole = record {
    request = record { setup = refl; bytes = λ e. cc };
    read = λ _. refl;
    setup_bytes =
        (omega arith, (omega arith, (omega arith, (omega arith, (omega arith, (omega arith, (omega arith, (omega arith, tt))))))));
    data_bytes = tt;
  };
}

zero_named : HasItsName zero
zero_named = record { name = record { number = refl; way = refl }; most = λ _. omega arith; high = λ _ _. refl }

beat_named : HasItsName beat
beat_named = record { name = record { least = omega arith; most = omega arith; way = λ e. cc }; most = λ e. cc; high = λ e _. cc }

pub sample_suits : AllByRecursion (λ l. SuitsLine (high_sides_of beside_interrupt) l.1) beside_interrupt.lines
sample_suits = (
  record { opened = suited beside_interrupt zero refl refl (λ _ _ _. refl) zero_named (λ off. omega arith); asks = tt },
  (
    record { opened = suited beside_interrupt beat tt refl (λ e _ _. cc) beat_named (λ off. omega arith); asks = tt },
    (record { opened = tt; asks = reads }, (record { opened = tt; asks = tt }, tt)),
  ),
)

-- a device at low speed stands behind a hub
pub slow_unsuited : IsSuited (high_sides_of beside_interrupt) (record zero { speed = speeds.Low }) → ⊥
slow_unsuited k = false≢true (k.speed refl)
