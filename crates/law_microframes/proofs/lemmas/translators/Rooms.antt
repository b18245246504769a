-- The pipeline of each translator has room at each moment of the run of a script that a text spells: what is laid for its entries is within
-- 188 byte-times a microframe, and each has nine at least.
use Rattle.std.proofs.Common.{◌≡◌, ℕ, suc, ◌%◌, ◌≤◌, ◌<◌, Bool, true, false, List, [], ◌∷◌, length, Option, Some, None, refl, sym, ap}
use Rattle.std.proofs.Common.{subst, ◌∙◌, arith}
use Rattle.std.proofs.Common.{⊎_elim, inl, inr, ◌⊎◌}
use Rattle.std.specs.Prelude.{is_some, nat_eq, ◌||◌, if◌then◌else◌}
use Rattle.std.proofs.lemmas.Bool.{true≢false, and_parts, cases_Bool}
use Rattle.usb_base.specs.Cost.{byte_times}
use Rattle.usb_base.specs.declared.packets.EpKind.{EpKind}
use Rattle.usb_base.specs.declared.packets.EpKind.TheVariants as kinds
use Rattle.usb_base.specs.declared.packets.Speed.{Speed}
use Rattle.usb_base.specs.declared.packets.Speed.TheVariants as speeds
use Rattle.script_fits.proofs.Texts.{spelled_fits}
use Rattle.hub_keys.specs.declared.key.Key.{Key}
use Rattle.tt_pipeline.specs.declared.entry.Entry.{Entry}
use Rattle.tt_pipeline.specs.Starting.{has_key, is_there, without}
use Rattle.bandwidth.specs.declared.placements.Placed.{Placed}
use Rattle.bandwidth.specs.Placements.{is_classic}
use Rattle.bandwidth.specs.Sums.{is_hub, is_translator, is_active}
use Rattle.drv_table.specs.DriverContent.{DriverContent}
use Rattle.bus_world.specs.World.{World}
use Rattle.bus_world.specs.Budgets.{moment}
use Rattle.claims_world.specs.Gaps.{watched_of, gaps}
use Rattle.claims_world.specs.HubPlans.{key_at, placed_below, plans_now}
use Rattle.claims_world.specs.Pipelines.{port_at}
use Rattle.law_budgets.specs.visit_prices.Spent.{placed_as}
use Rattle.law_translator.specs.Premises.{In}
use Rattle.law_translator.specs.hub_plans.HubPlans.{AreKeysApart}
use Rattle.law_translator.specs.hub_plans.Laws.{IsPlacedRight}
use Rattle.law_translator.proofs.Keys.{same_key, Distinct}
use Rattle.law_translator.proofs.KeepsStuffed.{HoldsStuffed}
use Rattle.law_translator.proofs.Starts.{all_begun}
use Rattle.law_translator.proofs.Sums.{AllBy, AreSome, few}
use Rattle.law_translator.proofs.Work.{keys_of}
use Rattle.law_microframes.specs.plans.Laws.{PlacesAreRight}
use Rattle.law_microframes.specs.translators.Keeping.{IsOwned, IsRight, WorldKeeps}
use Rattle.law_microframes.specs.translators.Rooms.{TextsHaveRoom}
use Rattle.law_microframes.specs.translators.Watching.{frame_of, HaveKeys, HubHolds}
use Rattle.law_microframes.proofs.lemmas.plans.Right.{scripts_place_right}
use Rattle.law_microframes.proofs.lemmas.translators.Hubs.{at_get}
use Rattle.law_microframes.proofs.lemmas.translators.Owned.{owned_planned}
use Rattle.law_microframes.proofs.lemmas.translators.Placing.{one_of}
use Rattle.law_microframes.proofs.lemmas.translators.Starting.{moment_apart}
use Rattle.law_microframes.proofs.lemmas.translators.TurnsRuns.{texts_hold}

-- ---- no key has two entries

either_off : (a b : Bool) → a ≡ false → b ≡ false → (a || b) ≡ false
either_off false b one two = two
either_off true b one two = absurd (true≢false one)

module _ (g : Key → ℕ) where
  -- none of these has the key
  unseen : (k : Key) (es : List Entry) → (In k (keys_of (watched_of g es)) → ⊥) → is_there k es ≡ false
  unseen k [] none = refl
  unseen k (e ∷ es) none =
      either_off (has_key k e) (is_there k es)
      (⊎_elim {C = has_key k e ≡ false} (λ (on : has_key k e ≡ true). absurd (none (inl (sym (same_key e.key k on)))))
      (λ (off : has_key k e ≡ false). off) (cases_Bool (has_key k e)))
      (unseen k es (λ m. none (inr m)))

  others_off : (k : Key) (e : Entry) (es : List Entry) (b : Bool) → has_key k e ≡ b → (In e.key (keys_of (watched_of g es)) → ⊥)
      → is_there k (without k es) ≡ false → is_there k (if b then es else e ∷ without k es) ≡ false
  others_off k e es true on apart rest =
      unseen k es (λ m. apart (subst (λ (j : Key). In j (keys_of (watched_of g es))) (sym (same_key e.key k on)) m))
  others_off k e es false off apart rest = either_off (has_key k e) (is_there k (without k es)) off rest

  once_of : (k : Key) (es : List Entry) → Distinct (keys_of (watched_of g es)) → is_there k (without k es) ≡ false
  once_of k [] d = refl
  once_of k (e ∷ es) d = others_off k e es (has_key k e) refl d.0 (once_of k es d.1)

  as_many : (es : List Entry) → length (keys_of (watched_of g es)) ≡ length es
  as_many [] = refl
  as_many (e ∷ es) = ap suc (as_many es)

-- ---- each has nine byte-times at least

nine_times : (v : Speed) (kind : EpKind) (n : ℕ) → is_classic v ≡ true → 9 ≤ byte_times v kind n
nine_times speeds.High kind n classic = absurd (true≢false (sym classic))
nine_times speeds.Full kinds.Iso n classic = omega arith
nine_times speeds.Full kinds.Interrupt n classic = omega arith
nine_times speeds.Full kinds.Bulk n classic = omega arith
nine_times speeds.Full kinds.Control n classic = omega arith
nine_times speeds.Low kind n classic = omega arith

hub_some : (o : Option ℕ) (hub : ℕ) → is_hub o hub ≡ true → is_some o ≡ true
hub_some None hub is = absurd (true≢false (sym is))
hub_some (Some h) hub is = refl

module _ (d : DriverContent) (index hub port : ℕ) (right : PlacesAreRight d)
    (apart : (hub port f : ℕ) → AreKeysApart (key_at d) (placed_below hub port f d.periodic.plan.placed)) where
  nine : (k : Key) → IsOwned d index hub port k → 9 ≤ (plans_now d index hub port).times k
  nine k o =
      let y : Placed = placed_as o.number o.desc o.placement in
      let is : IsPlacedRight y = one_of IsPlacedRight d.periodic.plan.placed o.planned.place y right o.planned.there in
      let below = and_parts (is_translator y.want hub port) (is_active o.placement _) o.below in
      let at_hub = and_parts (is_hub o.desc.hub hub) (nat_eq o.desc.tt port) below.0 in
      let classic : is_classic o.desc.speed ≡ true = sym is.want.hub ∙ hub_some o.desc.hub hub at_hub.0 in
      let planned = owned_planned d apart index hub port k o in
      subst (λ (n : ℕ). 9 ≤ n) (sym planned.times) (nine_times o.desc.speed o.desc.kind o.desc.max classic)

  some_of : (g : Key → ℕ) (now : ℕ) (es : List Entry) → now < 8 → AllBy (plans_now d index hub port) now (keys_of (watched_of g es))
      → HaveKeys (IsOwned d index hub port) (watched_of g es) → AreSome (plans_now d index hub port) (keys_of (watched_of g es))
  some_of g now [] low all keys = tt
  some_of g now (e ∷ es) low all keys =
      let first = all.0 in (nine e.key keys.0, omega (arith, first, low), some_of g now es low all.1 keys.1)

-- ---- at each moment

pub texts_have_room : TextsHaveRoom
texts_have_room text s spelled k i j h t here there key =
    let w : World = (moment s k).world in
    let d : DriverContent = w.driver in
    let index : ℕ = w.registers.frame_index in
    let port : ℕ = port_at h.translators.multi j in
    let all : WorldKeeps HoldsStuffed w (gaps s k) = texts_hold text s spelled k in
    let hub = at_get (λ n x. HubHolds (IsRight HoldsStuffed w.driver w.registers.frame_index) (plans_now w.driver w.registers.frame_index)
    (w.registers.frame_index % 8) (gaps s k n) x) w.bus.hubs i h all here in
    let one = at_get (λ n x. IsRight HoldsStuffed w.driver w.registers.frame_index h.address (port_at h.translators.multi n)
    (frame_of (plans_now w.driver w.registers.frame_index h.address (port_at h.translators.multi n)) (w.registers.frame_index % 8)
    (gaps s k i n) x))
    h.translators.all j t hub there in
    let g : Key → ℕ = gaps s k i j in
    let holds : HoldsStuffed (frame_of (plans_now d index h.address port) (index % 8) g t) = one.0 in
    let begun = all_begun 6 (plans_now d index h.address port) (index % 8) (watched_of g t.pipeline) holds.comes in
    let some = some_of d index h.address port (scripts_place_right s (spelled_fits text s spelled) k) (moment_apart text s spelled k) g
    (index % 8) t.pipeline (omega arith) begun one.1 in
    record {
      few = subst (λ (n : ℕ). n < 256) (as_many g t.pipeline)
          (few (plans_now d index h.address port) holds.fits (keys_of (watched_of g t.pipeline)) holds.members holds.distinct some);
      once = once_of g key t.pipeline holds.distinct;
    }
