-- A command of an isochronous endpoint tells the same of each queue: it is told as one that was given back, and so are its descriptors.
use Rattle.std.proofs.Common.{◌≡◌, ◌≢◌, ℕ, ◌*◌, Bool, true, false, cond, List, [], ◌∷◌, ◌++◌, length, slice_get}
use Rattle.std.proofs.Common.{Option, Some, None, Ok, option_map, ap, refl, sym, subst, ◌∙◌, ⊎_elim, arith}
use Rattle.std.specs.Prelude.{◌⊎◌, ◌==◌}
use Rattle.std.proofs.lemmas.Bool.{eq-eqb, false≢true}
use Rattle.std.proofs.lemmas.Option.{same_Some, slice_get_within, slice_get_past}
use Rattle.law_common.proofs.Lists.{pushed_beside, pushed_last, push_which, push_there, all_more, still_there}
use Rattle.law_world.proofs.Common.{none_some as none_unfinished}
use Rattle.usb_base.specs.declared.commands.Cmd.{Cmd}
use Rattle.usb_base.specs.declared.endpoints.EpDesc.{EpDesc}
use Rattle.usb_base.specs.declared.endpoints.EpName.{EpName}
use Rattle.bus_wire.specs.Fates.{is_same_name}
use Rattle.drv_table.specs.declared.content.Command.TheVariants as unfinished
use Rattle.drv_table.specs.declared.content.Endpoint.{Endpoint}
use Rattle.drv_table.specs.declared.content.Transfer.{Transfer}
use Rattle.mem_runs.specs.Book.{Book}
use Rattle.drv_table.specs.DriverContent.{DriverContent, is_same_name as is_driver_name, endpoint_of}
use Rattle.drv_table.specs.Accepting.{Offered}
use Rattle.drv_table.specs.Harvests.{note_at}
use Rattle.drv_table.specs.Offers.{placed_endpoint}
use Rattle.drv_table.specs.declared.content.Reserve.{Reserve}
use Rattle.law_driver.specs.run_owners.Accepts.{Places}
use Rattle.law_driver.proofs.lemmas.run_owners.Released.{same_by_test}
use Rattle.law_driver.specs.chained_transfers.Turns.{Turn, turn_of, turn_in, IsNext, AreReportedTo, AreInTurn}
use Rattle.law_driver.specs.endpoint_lives.Lives.{told_end}
use Rattle.law_driver.specs.queued_drivers.Queued.{without_queue, queued}
use Rattle.law_driver.specs.queued_drivers.Commands.{IsGivenBackOf, IsEndOpened, AreEndsTaken, IsEndLeft}
use Rattle.law_driver.proofs.lemmas.queued_drivers.CommandFields.{named_same}
use Rattle.law_driver_ring.specs.fed_queues.Places.{IsThere}
use Rattle.law_queues.specs.told_endpoints.Telling.{Named, named_of, named_in}
use Rattle.law_structures.specs.lent_structures.Structures.{StructureSets}
use Rattle.law_ring.specs.Hand.{Hand}
use Rattle.law_queues.specs.harvest_laws.Holds.{IsUnderWay, HoldsEach}
use Rattle.law_queues.specs.harvest_laws.Told.{ToldStands}
use Rattle.law_queues.proofs.lemmas.harvest_laws.Commanding.{none_passes, named_there, tells_like}
use Rattle.law_queues.proofs.lemmas.told_endpoints.Names.{driver_name}
use Rattle.law_queues.proofs.lemmas.told_endpoints.Tellings.{endpoint_more}
use Rattle.law_queues.proofs.lemmas.harvest_laws.Standing.{alike_is_told}
use Rattle.law_world.specs.memory.Mixed.{Standing}
use Rattle.law_world.proofs.lemmas.memory.CommandShared.{IsAccepted, idle_queues}
use Rattle.law_world.proofs.lemmas.memory.CommandWider.{AreReleased, held_before}
use Rattle.bus_world.specs.World.{World, name_in, commanded_by}
use Rattle.law_reports.specs.lines.Lined.{in_hand, Lines, IsTelling}
use Rattle.law_reports.proofs.lemmas.lines.Commanded.{Was, itself, there_idle, telling_of}

-- ---- an endpoint more, told as one that was given back

abbrev with_gone : DriverContent → Endpoint → Reserve → DriverContent
with_gone d x room = record d { endpoints = d.endpoints ++ x ∷ []; room = room }

module _ (d : DriverContent) (x : Endpoint) (room : Reserve) (gone : x.gone ≡ true) (idle : d.command ≡ None) where
  abbrev none_at : (lists : ℕ → List ℕ) → ℕ → List ℕ
  none_at lists e = cond (e == length d.endpoints) [] (lists e)

  none_here : (lists : ℕ → List ℕ) → none_at lists (length d.endpoints) ≡ []
  none_here lists = ap (λ (b : Bool). cond b [] (lists (length d.endpoints))) (eq-eqb (length d.endpoints) (length d.endpoints) refl)

  none_beside : (lists : ℕ → List ℕ) (e : ℕ) (b : Bool) → (e == length d.endpoints) ≡ b → e ≢ length d.endpoints → none_at lists e ≡ lists e
  none_beside lists e true is differs = absurd (differs (same_by_test e (length d.endpoints) is))
  none_beside lists e false is differs = ap (λ (b : Bool). cond b [] (lists e)) is

  older : (e : ℕ) (y : Endpoint) → slice_get d.endpoints e ≡ Some y → e ≢ length d.endpoints
  older e y here is = let low = slice_get_within d.endpoints e y here in omega (arith, low, is)

  beside : (lists : ℕ → List ℕ) (e : ℕ) (y : Endpoint) → slice_get d.endpoints e ≡ Some y → none_at lists e ≡ lists e
  beside lists e y here = none_beside lists e (e == length d.endpoints) refl (older e y here)

  which : (e : ℕ) (y : Endpoint) → slice_get (d.endpoints ++ x ∷ []) e ≡ Some y
      → (slice_get d.endpoints e ≡ Some y) ⊎ ((e ≡ length d.endpoints) × (y ≡ x))
  which e y here = push_which d.endpoints x e y here

  kept_was : (e : ℕ) (y : Endpoint) → slice_get (d.endpoints ++ x ∷ []) e ≡ Some y → y.gone ≡ false → slice_get d.endpoints e ≡ Some y
  kept_was e y here kept =
      ⊎_elim (λ (was : slice_get d.endpoints e ≡ Some y). was)
      (λ (own : (e ≡ length d.endpoints) × (y ≡ x)). absurd (false≢true (sym kept ∙ ap (λ (z : Endpoint). z.gone) own.1 ∙ gone)))
      (which e y here)

  pub gone_was : (e : ℕ) (z : Endpoint) → slice_get (with_gone d x room).endpoints e ≡ Some z → IsThere (with_gone d x room) z → Was d e z
  gone_was e z here there = itself d e z (kept_was e z here there.kept)

  gone_holds : (hand : Hand) (parts : StructureSets) (held : ℕ → List ℕ) → x.next ≡ None → HoldsEach d hand parts held
      → HoldsEach (with_gone d x room) hand parts (none_at held)
  gone_holds hand parts held last k = record {
    next = λ e t z y n on.
        ⊎_elim (λ (was : slice_get d.endpoints e ≡ Some z).
        subst (IsUnderWay hand parts (32 * z.queue) (note_at d.notes) y) (sym (beside held e z was))
        (k.next e t z y (record { endpoint = was; going = n.going; next = n.next; transfer = n.transfer }) on))
        (λ (own : (e ≡ length d.endpoints) × (z ≡ x)). absurd (none_some (sym (ap (λ (v : Endpoint). v.next) own.1 ∙ last) ∙ n.next)))
        (which e z n.endpoint);
    none = λ e z here ends on.
        ⊎_elim (λ (was : slice_get d.endpoints e ≡ Some z). beside held e z was ∙ k.none e z was ends on)
        (λ (own : (e ≡ length d.endpoints) × (z ≡ x)). ap (none_at held) own.0 ∙ none_here held) (which e z here);
    to_come = λ t y there waits kept other. k.to_come t y there waits kept
        (λ z here is. other z (push_there d.endpoints x y.endpoint z here) is);
    within = k.within;
  }
    where
      none_some : {t : ℕ} → None ≡ Some t → ⊥
      none_some is = cc

  pub gone_told : (hand : Hand) (parts : StructureSets) (reported : ℕ → List ℕ) → x.next ≡ None
      → ((e : ℕ) (y : Named) → named_in d.endpoints e ≡ Some y → is_same_name y.name x.desc.name ≡ false)
      → ToldStands d hand parts reported → ToldStands (with_gone d x room) hand parts reported
  gone_told hand parts reported last others k = record {
    held = none_at k.held;
    told = none_at k.told;
    holds = gone_holds hand parts k.held last k.holds;
    tells = endpoint_more d.reports d.store (named_in d.endpoints) (named_in (d.endpoints ++ x ∷ [])) (none_at k.held) (none_at k.told)
        (length d.endpoints) (named_of x) (ap (option_map named_of) (slice_get_past d.endpoints (length d.endpoints) (omega arith)))
        (record {
          here = ap (option_map named_of) (pushed_last d.endpoints x);
          beside = λ e differs. ap (option_map named_of) (pushed_beside d.endpoints x e differs);
        })
        others (none_here k.held) (none_here k.told)
        (tells_like d.reports d.store (named_in d.endpoints) k.held (none_at k.held) k.told (none_at k.told)
        (λ e y here. let z = named_there d.endpoints e y here in (beside k.held e z.0 z.1, beside k.told e z.0 z.1)) k.tells);
    met = λ e z here meets.
        let was = kept_was e z here meets.kept in
        beside k.told e z was
        ∙ k.met e z was (record { linked = λ is. none_unfinished (unfinished.Open z.queue) (sym idle ∙ is); kept = meets.kept });
    opening = λ e z here kept opens. absurd (none_unfinished (unfinished.Open z.queue) (sym idle ∙ opens));
  }

-- ---- transfers more that were given back

abbrev with_given : DriverContent → Book → List Transfer → Reserve → DriverContent
with_given d book ys room = record d { book = book; transfers = d.transfers ++ ys; made = 0; room = room }

-- the next transfer of an endpoint that goes on
abbrev HasNexts : DriverContent → Type 0
HasNexts d = (e t : ℕ) (x : Endpoint) → slice_get d.endpoints e ≡ Some x → told_end x ≡ None → x.next ≡ Some t
    → (y : Transfer) × (slice_get d.transfers t ≡ Some y)

turn_there : (o : Option Transfer) (u : Turn) → option_map turn_of o ≡ Some u → (y : Transfer) × (o ≡ Some y)
turn_there None u none = absurd cc
turn_there (Some y) u some = (y, refl)

has_nexts : (d : DriverContent) → AreInTurn d → HasNexts d
has_nexts d k e t x here going is =
    let n : IsNext (turn_in d.transfers) e t = subst (AreReportedTo (turn_in d.transfers) e) is (k.turns.next e x here going) in
    turn_there (slice_get d.transfers t) n.transfer n.here

module _ (d : DriverContent) (book : Book) (ys : List Transfer) (room : Reserve) (all : AreReleased ys) (nexts : HasNexts d) where
  given_holds : (hand : Hand) (parts : StructureSets) (held : ℕ → List ℕ)
      → HoldsEach d hand parts held → HoldsEach (with_given d book ys room) hand parts held
  given_holds hand parts held k = record {
    next = λ e t z y n on.
        let u = nexts e t z n.endpoint n.going n.next in
        k.next e t z y (record {
          endpoint = n.endpoint;
          going = n.going;
          next = n.next;
          transfer = u.1 ∙ ap Some (same_Some u.0 y (sym (still_there d.transfers ys t u.0 u.1) ∙ n.transfer));
        }) on;
    none = k.none;
    to_come = λ t y there waits kept other. k.to_come t y (held_before d.transfers ys all t y there kept) waits kept other;
    within = λ t y there kept. k.within t y (held_before d.transfers ys all t y there kept) kept;
  }

  pub given_told : (hand : Hand) (parts : StructureSets) (reported : ℕ → List ℕ)
      → ToldStands d hand parts reported → ToldStands (with_given d book ys room) hand parts reported
  given_told hand parts reported k = record {
    held = k.held;
    told = k.told;
    holds = given_holds hand parts k.held k.holds;
    tells = k.tells;
    met = λ e z here meets. k.met e z here (record { linked = meets.linked; kept = meets.kept });
    opening = k.opening;
  }

-- ---- names

-- a name that no endpoint has is told of none
pub fresh_names : (d : DriverContent) (name : EpName) → endpoint_of d name ≡ None → (e : ℕ) (y : Named)
    → named_in (queued d).endpoints e ≡ Some y
    → is_same_name y.name name ≡ false
fresh_names d name new e y here =
    let z = named_there (queued d).endpoints e y here in
    ap (λ (v : Named). is_same_name v.name name) (sym z.2) ∙ sym (driver_name z.0.desc.name name)
    ∙ none_passes (λ v. is_driver_name v.desc.name name) (queued d).endpoints (named_same d name ∙ new) e z.0 z.1

-- ---- the commands

module _ (s : Standing) (m : Lines) (w : World) (line : ℕ) (cmd : Cmd) (o : Offered) (a : IsAccepted s w line cmd o) (g : IsTelling s m w)
  where
    abbrev d : DriverContent
    d = queued w.driver

    -- an isochronous endpoint is opened
    pub placed_telling : (x : EpDesc) → IsEndOpened w.driver w.memory x o → (why : Places w.driver w.memory o) → why.desc ≡ x
        → IsTelling s m (commanded_by w line (name_in cmd) (Ok o))
    placed_telling x k why same =
        let gone : Endpoint = without_queue (placed_endpoint x k.placement 0 0) in
        let idle = idle_queues s w line cmd o a in
        telling_of s m w line cmd o a g (with_gone d gone o.driver.room) k.alike
        (gone_told d gone o.driver.room refl idle (in_hand s) s.parts m.reported refl
        (fresh_names w.driver x.name (subst (λ (c : EpDesc). endpoint_of w.driver c.name ≡ None) same why.new_name)) g.told)
        (there_idle d (with_gone d gone o.driver.room) idle (gone_was d gone o.driver.room refl idle))

    -- its descriptors are taken on
    pub taken_telling : AreEndsTaken w.driver w.memory o → IsTelling s m (commanded_by w line (name_in cmd) (Ok o))
    taken_telling k =
        let all : AreReleased k.given =
        all_more (IsGivenBackOf w.driver k.number) (λ (y : Transfer). y.released ≡ true) k.given (λ y is. is.released) k.each in
        telling_of s m w line cmd o a g (with_given d o.driver.book k.given o.driver.room) k.alike
        (given_told d o.driver.book k.given o.driver.room all (has_nexts d a.mixed.turns.turns.turns) (in_hand s) s.parts m.reported g.told)
        (there_idle d (with_given d o.driver.book k.given o.driver.room) (idle_queues s w line cmd o a)
        (λ e z here there. itself d e z here))

    -- it is cancelled
    pub end_left_telling : IsEndLeft w.driver w.memory o → IsTelling s m (commanded_by w line (name_in cmd) (Ok o))
    end_left_telling k =
        let f : DriverContent = record d { made = 0; room = o.driver.room } in
        telling_of s m w line cmd o a g f k.alike
        (alike_is_told d f (in_hand s) s.parts m.reported (record {
          reports = refl;
          store = refl;
          endpoints = refl;
          transfers = refl;
          notes = refl;
        })
        (λ x there. record { linked = there.linked; kept = there.kept }) (λ x is. is) g.told)
        (there_idle d f (idle_queues s w line cmd o a) (λ e z here there. itself d e z here))
