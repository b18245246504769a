-- At each moment of each script hubs hear only requests of its `control` lines to them.
use Rattle.std.proofs.Common.{◌≡◌, ℕ, ◌==◌, Bool, true, false, cond, List, [], ◌∷◌, ◌++◌, map, length, slice_get, Option, Some, None}
use Rattle.std.proofs.Common.{ap, refl, sym, subst, ◌∙◌, append_assoc}
use Rattle.std.proofs.lemmas.Bool.{eqb-true}
use Rattle.std.specs.List.{AllByRecursion}
use Rattle.std.specs.Option.{option_map_or}
use Rattle.law_world.proofs.Common.{lines_can}
use Rattle.usb_base.specs.declared.commands.Cmd.{Cmd}
use Rattle.usb_base.specs.declared.commands.Cmd.TheVariants as commands
use Rattle.usb_base.specs.declared.endpoints.EpDesc.{EpDesc}
use Rattle.script_types.specs.declared.devices.HubText.{HubText}
use Rattle.script_types.specs.declared.scripts.Line.{Line}
use Rattle.script_types.specs.declared.scripts.Line.TheVariants as lines
use Rattle.script_types.specs.declared.scripts.Script.{Script}
use Rattle.qh_qtd.specs.declared.qtd.Qtd.{Qtd}
use Rattle.script_fits.proofs.Texts.{spelled_fits}
use Rattle.script_text.specs.Faults.{Spells}
use Rattle.dev_control.specs.Stages.{setup_of}
use Rattle.hub_class.specs.HubContent.{HubContent}
use Rattle.hub_class.specs.HubContent as Hubs
use Rattle.bus_wire.specs.Bus.{Fixed, fixed_of}
use Rattle.drv_table.specs.Offers.{IsOffered}
use Rattle.drv_table.specs.Words.{opening_head}
use Rattle.law_driver.specs.queued_drivers.Queued.{queued}
use Rattle.law_structures.specs.lent_structures.Structures.{QueueHead, Element}
use Rattle.law_devices.specs.declared_controls.Requests.{AsksCommand, AsksLine}
use Rattle.law_devices.proofs.lemmas.declared_controls.Controls.{texts_ask_requests}
use Rattle.law_scripts.specs.byte_answers.Bytes.{IsByteCommand, IsByteLine}
use Rattle.law_scripts.proofs.lemmas.script_bytes.Texts.{a_text_spells_bytes}
use Rattle.law_driver_ring.specs.PartOpened.{opening_parts}
use Rattle.law_world.specs.memory.Mixed.{Standing, IsMixedAt}
use Rattle.law_world.specs.memory.Opens.{OpensMixed}
use Rattle.law_world.specs.memory.Steps.{IsMixedNext}
use Rattle.law_world.specs.memory.Steps.{QueueStep, stays, harvests, returns, lends, stores, mends, begins, opens, unlinks, narrows, goes}
use Rattle.law_world.specs.memory.pipe_steps.Laws.{IsNoOpening}
use Rattle.law_world.specs.steps.receiving_runs.Runs.{KindOfLine, IsKeptBy}
use Rattle.law_world.proofs.lemmas.memory.Driving.{driver_tells_step}
use Rattle.law_world.proofs.lemmas.memory.FittingTexts.{texts_open_fitting}
use Rattle.law_world.proofs.lemmas.memory.Texts.{texts_fit}
use Rattle.law_world.proofs.lemmas.memory.Together.{lines_fit}
use Rattle.law_world.proofs.lemmas.steps.lemmas.receiving_runs.Runs.{holds_throughout}
use Rattle.bus_world.specs.Budgets.{moment}
use Rattle.bus_world.specs.Opening.{opening_world}
use Rattle.bus_world.specs.World.{World, driver_next, controller_next, commanded}
use Rattle.claims_world.specs.BelowStreams.{clears_translator, heard_clear, SparesHub}
use Rattle.law_reports.specs.lines.Lined.{Lines}
use Rattle.law_reports.specs.lines.TellingLaws.{IsTellingNext}
use Rattle.law_reports.proofs.lemmas.lines.Driven.{driver_keeps_telling}
use Rattle.law_reports.specs.pipes.Declared.{Sides, sides_of}
use Rattle.law_reports.specs.pipes.Piped.{Heads, IsPiped}
use Rattle.law_reports.specs.pipes.PipedLaws.{OpensDeclared}
use Rattle.law_reports.proofs.lemmas.pipes.Commanded.{commanded_piped}
use Rattle.law_reports.proofs.lemmas.pipes.Controlled.{controlled}
use Rattle.law_reports.proofs.lemmas.pipes.DeclaredOpens.{texts_declare}
use Rattle.law_reports.proofs.lemmas.pipes.Driven.{heads_left, driven}
use Rattle.law_reports.proofs.lemmas.pipes.Moments.{CanBe, lines_both}
use Rattle.law_reports.proofs.lemmas.pipes.Opened.{end_beside, heads_opened, near_was, opened_piped}
use Rattle.law_reports.proofs.lemmas.pipes.Opening.{new_standing, no_lines, no_heads, new_piped}
use Rattle.law_reports.proofs.lemmas.pipes.lemmas.below_hubs.BehindMoments.{kinds_both}
use Rattle.law_reports.specs.pipes.hub_setups.Laws.{SetsUpFit, IsFitBy, ControllerKeepsHeeding, DriverKeepsHeeding, CommandKeepsHeeding}
use Rattle.law_reports.specs.pipes.hub_setups.Laws.{HasControl, HubsHearControls, LinesSpareHubs}
use Rattle.law_reports.specs.pipes.hub_setups.Setups.{SetsUp, HearsOnly, IsHeeding, HasHeeding}
use Rattle.law_reports.proofs.lemmas.pipes.lemmas.hub_setups.Commanded.{commanded_heeds}
use Rattle.law_reports.proofs.lemmas.pipes.lemmas.hub_setups.Controlled.{controlled_heeds}
use Rattle.law_reports.proofs.lemmas.pipes.lemmas.hub_setups.Driven.{sets_then, opened_sets, publishes_then}

-- ---- each event and each command

module _ (fixed : Fixed) (x : Sides) (a : ℕ) (Q : List ℕ → Type 0) (w : World) where
  controller_heeds : HasHeeding fixed x a Q w → HasHeeding fixed x a Q (controller_next fixed w)
  controller_heeds k = record {
    standing = _;
    lines = _;
    heads = k.heads;
    piped = controlled fixed x k.standing k.lines k.heads w k.piped;
    heeds = controlled_heeds fixed x k.standing k.lines k.heads w k.piped a Q k.heeds;
  }

  module _ (s : Standing) (m : Lines) (h : Heads) (k : IsPiped fixed x s m h w) (heeds : IsHeeding a Q s h w) where
    by_other : (t : Standing) (step : QueueStep s w (driver_next w) t) → IsNoOpening step → IsMixedAt t (driver_next w)
        → IsTellingNext s m w (driver_next w) t step → HasHeeding fixed x a Q (driver_next w)
    by_other t step other mixed next = record {
      standing = t;
      lines = next.lines;
      heads = heads_left fixed x s m h w k t;
      piped = driven fixed x s m h w k t step other mixed next;
      heeds = record {
        sets_up = sets_then fixed x s m h w k a Q heeds t step other;
        publishes = publishes_then fixed x s m h w k a Q heeds t step mixed;
        hubs = heeds.hubs;
      };
    }

    by_step : (t : Standing) (step : QueueStep s w (driver_next w) t) → IsMixedAt t (driver_next w)
        → IsTellingNext s m w (driver_next w) t step → HasHeeding fixed x a Q (driver_next w)
    by_step t (opens at _ alike opened) mixed next = record {
      standing = t;
      lines = next.lines;
      heads = heads_opened fixed x s m h w k at t alike opened mixed next;
      piped = opened_piped fixed x s m h w k at t alike opened mixed next;
      heeds = record {
        sets_up = opened_sets fixed x s m h w k a Q heeds at t opened (heads_opened fixed x s m h w k at t alike opened mixed next).ends
            (end_beside fixed x s m h w k at t alike opened mixed next) (near_was fixed x s m h w k at t alike opened mixed next);
        publishes = publishes_then fixed x s m h w k a Q heeds t (opens at t alike opened) mixed;
        hubs = heeds.hubs;
      };
    }
    by_step t (stays _ none still) mixed next = by_other t (stays t none still) tt mixed next
    by_step t (harvests e u found due later row out) mixed next = by_other t (harvests e u found due later row out) tt mixed next
    by_step t (returns u y v row r) mixed next = by_other t (returns u y v row r) tt mixed next
    by_step t (lends q words get order out row behind) mixed next = by_other t (lends q words get order out row behind) tt mixed next
    by_step t (stores q words g is) mixed next = by_other t (stores q words g is) tt mixed next
    by_step t (mends at row) mixed next = by_other t (mends at row) tt mixed next
    by_step t (begins at row alike) mixed next = by_other t (begins at row alike) tt mixed next
    by_step t (unlinks at row) mixed next = by_other t (unlinks at row) tt mixed next
    by_step t (narrows member near row are fewer) mixed next = by_other t (narrows member near row are fewer) tt mixed next
    by_step t (goes e y d _ back is) mixed next = by_other t (goes e y d t back is) tt mixed next

  driver_heeds : HasHeeding fixed x a Q w → HasHeeding fixed x a Q (driver_next w)
  driver_heeds k =
      let n : IsMixedNext k.standing w (driver_next w) = driver_tells_step k.standing w k.piped.mixed in
      by_step k.standing k.lines k.heads k.piped k.heeds n.standing n.step n.mixed
      (driver_keeps_telling k.standing k.lines w n.standing n.step k.piped.mixed n.mixed k.piped.telling k.piped.going)

  command_heeds : (line : ℕ) (cmd : Cmd) → OpensMixed cmd → OpensDeclared x cmd → AsksCommand cmd → IsByteCommand cmd → SetsUpFit a Q cmd
      → IsOffered w.driver.room cmd → HasHeeding fixed x a Q w → HasHeeding fixed x a Q (commanded w line cmd)
  command_heeds line cmd opened declares whole small fits room k = record {
    standing = k.standing;
    lines = k.lines;
    heads = k.heads;
    piped = commanded_piped fixed x k.standing k.lines k.heads w k.piped line cmd opened declares room;
    heeds = commanded_heeds fixed x k.standing k.lines k.heads w k.piped a Q k.heeds line cmd whole small fits;
  }

pub controller_keeps_heeding : ControllerKeepsHeeding
controller_keeps_heeding fixed x a fits w k = controller_heeds fixed x a (IsFitBy fits) w k

pub driver_keeps_heeding : DriverKeepsHeeding
driver_keeps_heeding fixed x a fits w k = driver_heeds fixed x a (IsFitBy fits) w k

pub command_keeps_heeding : CommandKeepsHeeding
command_keeps_heeding fixed x a fits w line cmd opened declares whole small fit room k =
    command_heeds fixed x a (IsFitBy fits) w line cmd opened declares whole small fit room k

-- ---- a run

abbrev CanHeed : Sides → ℕ → (List ℕ → Type 0) → Cmd → Type 0
CanHeed x a Q cmd = ((CanBe x cmd × AsksCommand cmd) × IsByteCommand cmd) × SetsUpFit a Q cmd

new_heeding : (a : ℕ) (Q : List ℕ → Type 0) (hs : List HubText) → AllByRecursion (HearsOnly a Q) (map Hubs.opening hs)
new_heeding a Q [] = tt
new_heeding a Q (h ∷ hs) = ((λ at setup is. absurd (none_heard setup is)), new_heeding a Q hs)
  where
    none_heard : (setup : List ℕ) → ◌≡◌ {A = Option (List ℕ)} None (Some setup) → ⊥
    none_heard setup is = cc

asks_lines : (ls : List (ℕ × Line)) → AllByRecursion (λ l. AsksLine l.1) ls → AllByRecursion (λ l. KindOfLine AsksCommand l.1) ls
asks_lines [] all = tt
asks_lines (l ∷ ls) all = (by l.1 all.0, asks_lines ls all.1)
  where
    by : (line : Line) → AsksLine line → KindOfLine AsksCommand line
    by (lines.Command cmd) one = one
    by _ one = tt

byte_lines : (ls : List (ℕ × Line)) → AllByRecursion (λ l. IsByteLine l.1) ls → AllByRecursion (λ l. KindOfLine IsByteCommand l.1) ls
byte_lines [] all = tt
byte_lines (l ∷ ls) all = (by l.1 all.0, byte_lines ls all.1)
  where
    by : (line : Line) → IsByteLine line → KindOfLine IsByteCommand line
    by (lines.Command cmd) one = one
    by _ one = tt

module _ (text : List ℕ) (s : Script) (spelled : Spells text s) (a : ℕ) (Q : List ℕ → Type 0) where
  new_world_heeds : HasHeeding (fixed_of s) (sides_of s) a Q (opening_world s)
  new_world_heeds = record {
    standing = new_standing;
    lines = no_lines;
    heads = no_heads;
    piped = new_piped s (spelled_fits text s spelled) (a_text_spells_bytes text s spelled);
    heeds = record {
      sets_up = λ n near address.
          subst (λ (i : ℕ). SetsUp Q (opening_parts i)) (sym (eqb-true n 4096 near)) (λ b t here. absurd (none_at b t here));
      publishes = λ b words t y z command newest there here sort address. absurd (no_transfer t y there);
      hubs = new_heeding a Q s.hubs;
    };
  }
    where
      no_transfer : (t : ℕ) (y : _) → slice_get (queued (opening_world s).driver).transfers t ≡ Some y → ⊥
      no_transfer t y there = cc

      -- the head of the ring has none
      none_at : (b : ℕ) (t : Qtd) → opening_parts 4096 b ≡ Some (Element t) → ⊥
      none_at b t here = by (b == 4096) here
        where
          by : (own : Bool) → cond own (Some (QueueHead opening_head)) None ≡ Some (Element t) → ⊥
          by true f = cc
          by false f = cc

  is_kept : IsKeptBy (fixed_of s) (CanHeed (sides_of s) a Q) (HasHeeding (fixed_of s) (sides_of s) a Q)
  is_kept = record {
    driver = λ w k. driver_heeds (fixed_of s) (sides_of s) a Q w k;
    controller = λ w k. controller_heeds (fixed_of s) (sides_of s) a Q w k;
    command = λ w line cmd can room k.
        command_heeds (fixed_of s) (sides_of s) a Q w line cmd can.0.0.0.0 can.0.0.0.1 can.0.0.1 can.0.1 can.1 room k;
  }

  pub hubs_hear : AllByRecursion (λ l. KindOfLine (SetsUpFit a Q) l.1) s.lines → (k : ℕ)
      → AllByRecursion (HearsOnly a Q) (moment s k).world.bus.hubs
  hubs_hear fits k =
      let can = lines_fit s.lines (texts_fit text s spelled) (texts_open_fitting text s spelled) in
      let one = lines_both (sides_of s) s.lines (lines_can s.lines can) (texts_declare text s spelled) in
      let two = kinds_both (CanBe (sides_of s)) AsksCommand s.lines one (asks_lines s.lines (texts_ask_requests text s spelled)) in
      let three = kinds_both _ IsByteCommand s.lines two (byte_lines s.lines (a_text_spells_bytes text s spelled).lines) in
      (holds_throughout (CanHeed (sides_of s) a Q) (HasHeeding (fixed_of s) (sides_of s) a Q) s (spelled_fits text s spelled)
      (kinds_both _ (SetsUpFit a Q) s.lines three fits) new_world_heeds is_kept k).heeds.hubs

-- ---- the lines

-- each line of a script is one of it
its_lines : (s : Script) (a : ℕ) (before : List (ℕ × Line)) (ls : List (ℕ × Line)) → s.lines ≡ before ++ ls
    → AllByRecursion (λ l. KindOfLine (SetsUpFit a (HasControl s a)) l.1) ls
its_lines s a before [] are = tt
its_lines s a before (l ∷ ls) are = (by l.1 refl, its_lines s a (before ++ l ∷ []) ls (are ∙ sym (append_assoc before (l ∷ []) ls)))
  where
    place : slice_get s.lines (length before) ≡ Some l
    place = ap (λ (xs : List (ℕ × Line)). slice_get xs (length before)) are ∙ behind before l ls
      where
        behind : (xs : List (ℕ × Line)) (y : ℕ × Line) (ys : List (ℕ × Line)) → slice_get (xs ++ y ∷ ys) (length xs) ≡ Some y
        behind [] y ys = refl
        behind (x ∷ xs) y ys = behind xs y ys

    its : (name : _) (setup bytes : List ℕ) → l.1 ≡ lines.Command (commands.Control name setup bytes) → name.addr ≡ a
        → HasControl s a setup
    its name setup bytes is at = record {
      place = length before;
      number = l.0;
      name = name;
      bytes = bytes;
      here = place ∙ ap (λ (line : Line). Some (l.0, line)) is;
      address = at;
    }

    by_command : (cmd : Cmd) → l.1 ≡ lines.Command cmd → SetsUpFit a (HasControl s a) cmd
    by_command (commands.Control name setup bytes) is = λ at. its name setup bytes is at
    by_command _ is = tt

    by : (line : Line) → l.1 ≡ line → KindOfLine (SetsUpFit a (HasControl s a)) line
    by (lines.Command cmd) is = by_command cmd is
    by _ is = tt

own_address : (s : Script) (hubs : List HubContent) → ((a : ℕ) → AllByRecursion (HearsOnly a (HasControl s a)) hubs)
    → AllByRecursion (λ h. (setup : List ℕ) → setup_of h.control.request ≡ Some setup → HasControl s h.address setup) hubs
own_address s [] all = tt
own_address s (h ∷ hs) all = ((all h.address).0 refl, own_address s hs (λ a. (all a).1))

pub hubs_hear_controls : HubsHearControls
hubs_hear_controls text s spelled k =
    own_address s (moment s k).world.bus.hubs (λ a. hubs_hear text s spelled a (HasControl s a) (its_lines s a [] s.lines refl) k)

-- ---- .. that spare hubs

abbrev IsHarmless : List ℕ → Type 0
IsHarmless setup = clears_translator setup ≡ false

spares : (a : ℕ) (ls : List (ℕ × Line)) → AllByRecursion (λ l. SparesHub a l.1) ls
    → AllByRecursion (λ l. KindOfLine (SetsUpFit a IsHarmless) l.1) ls
spares a [] all = tt
spares a (l ∷ ls) all = (by l.1 all.0, spares a ls all.1)
  where
    by : (line : Line) → SparesHub a line → KindOfLine (SetsUpFit a IsHarmless) line
    by (lines.Command (commands.Control name setup bytes)) one = one
    by (lines.Command _) one = tt
    by _ one = tt

unclear : (o : Option (List ℕ)) → ((setup : List ℕ) → o ≡ Some setup → IsHarmless setup) → option_map_or clears_translator o false ≡ false
unclear None harmless = refl
unclear (Some setup) harmless = harmless setup refl

spared_by : (x : EpDesc) (hubs : List HubContent) → ((a : ℕ) → x.hub ≡ Some a → AllByRecursion (HearsOnly a IsHarmless) hubs)
    → AllByRecursion (λ (h : HubContent). Some h.address ≡ x.hub → heard_clear h ≡ false) hubs
spared_by x [] all = tt
spared_by x (h ∷ hs) all =
    ((λ at. unclear (setup_of h.control.request) ((all h.address (sym at)).0 refl)), spared_by x hs (λ a is. (all a is).1))

pub lines_spare_hubs : LinesSpareHubs
lines_spare_hubs text s x spelled leaves k =
    spared_by x (moment s k).world.bus.hubs (λ a is. hubs_hear text s spelled a IsHarmless (spares a s.lines (leaves a is)) k)
