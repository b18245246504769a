-- At the begin of its last complete-split's microframe an interrupt's result is there, and so are the last bytes of an isochronous IN, at each
-- moment of the run of a script that a text spells.
use Rattle.std.proofs.Common.{◌≡◌, ℕ, ◌+◌, ◌-◌, ◌/◌, ◌%◌, ◌≤◌, true, false, List, [], ◌∷◌, Option, Some, None, refl, sym, ap, subst, ◌∙◌, arith}
use Rattle.std.specs.Prelude.{is_some, nat_eq}
use Rattle.std.specs.List.{AllByRecursion}
use Rattle.std.proofs.lemmas.Bool.{true≢false, and_parts}
use Rattle.usb_base.specs.declared.packets.Ask.{Ask}
use Rattle.usb_base.specs.declared.packets.Dir.{Dir}
use Rattle.usb_base.specs.declared.packets.Dir.TheVariants as dirs
use Rattle.usb_base.specs.declared.packets.EpKind.{EpKind}
use Rattle.usb_base.specs.declared.packets.EpKind.TheVariants as kinds
use Rattle.script_fits.proofs.Texts.{spelled_fits}
use Rattle.hub_keys.specs.declared.key.Key.{Key}
use Rattle.bandwidth.specs.declared.placements.Placed.{Placed}
use Rattle.bandwidth.specs.Placements.{is_classic}
use Rattle.bandwidth.specs.Sums.{is_hub, is_translator, is_active}
use Rattle.drv_periodic_table.specs.Periodic.{dir_of}
use Rattle.drv_table.specs.DriverContent.{DriverContent}
use Rattle.tt_pipeline.specs.declared.entry.Brought.{Brought}
use Rattle.tt_pipeline.specs.declared.entry.Entry.{Entry}
use Rattle.tt_pipeline.specs.Work.{nothing_brought}
use Rattle.bus_world.specs.World.{World}
use Rattle.bus_world.specs.Budgets.{moment}
use Rattle.claims_world.specs.Answered.{end_of, AllAnswered}
use Rattle.claims_world.specs.Gaps.{watched_of, gaps}
use Rattle.claims_world.specs.HubPlans.{key_at, placed_below, time_in, plans_now}
use Rattle.claims_world.specs.Pipelines.{port_at}
use Rattle.law_budgets.specs.visit_prices.Spent.{placed_as}
use Rattle.law_translator.specs.hub_plans.HubPlans.{AreKeysApart}
use Rattle.law_translator.specs.hub_plans.Laws.{IsPlacedRight}
use Rattle.law_translator.proofs.Answered.{all_settled}
use Rattle.law_translator.proofs.KeepsStuffed.{HoldsStuffed}
use Rattle.law_translator.proofs.Owing.{Came, unseen, partial, ended, Coming}
use Rattle.law_translator.proofs.Work.{All}
use Rattle.law_microframes.specs.plans.Laws.{PlacesAreRight}
use Rattle.law_microframes.specs.translators.Keeping.{IsOwned, IsRight, WorldKeeps}
use Rattle.law_microframes.specs.translators.Told.{IsLastIn, HasAnswer, IsToldByLast, TextsTellByLast}
use Rattle.law_microframes.specs.translators.Watching.{frame_of, HaveKeys, HubHolds}
use Rattle.law_microframes.proofs.lemmas.plans.Right.{scripts_place_right}
use Rattle.law_microframes.proofs.lemmas.translators.Hubs.{at_get}
use Rattle.law_microframes.proofs.lemmas.translators.LastCompletes.{last_completes_are_late}
use Rattle.law_microframes.proofs.lemmas.translators.Owned.{owned_planned}
use Rattle.law_microframes.proofs.lemmas.translators.Placing.{one_of}
use Rattle.law_microframes.proofs.lemmas.translators.Starting.{moment_apart}
use Rattle.law_microframes.proofs.lemmas.translators.TurnsRuns.{texts_hold}

hub_some : (o : Option ℕ) (hub : ℕ) → is_hub o hub ≡ true → is_some o ≡ true
hub_some None hub is = absurd (true≢false (sym is))
hub_some (Some h) hub is = refl

answer_of : (kind : EpKind) (dir : Dir) → kind ≡ kinds.Iso → dir ≡ dirs.In → HasAnswer kind dir
answer_of kind dir iso inward =
    subst (λ (k : EpKind). HasAnswer k dir) (sym iso) (subst (HasAnswer kinds.Iso) (sym inward) tt)

module _ (d : DriverContent) (index hub port : ℕ) (right : PlacesAreRight d)
    (apart : (hub port f : ℕ) → AreKeysApart (key_at d) (placed_below hub port f d.periodic.plan.placed)) where
  -- what is laid for the key of an endpoint ends two microframes before its last complete-split
  ends_before : (k : Key) (o : IsOwned d index hub port k) (u : ℕ) → HasAnswer o.desc.kind (dir_of o.desc.name.way)
      → IsLastIn o.placement.cmask u → end_of (plans_now d index hub port) k + 2 ≤ u
  ends_before k o u answers last =
      let y : Placed = placed_as o.number o.desc o.placement in
      let is : IsPlacedRight y = one_of IsPlacedRight d.periodic.plan.placed o.planned.place y right o.planned.there in
      let below = and_parts (is_translator y.want hub port) (is_active o.placement _) o.below in
      let at_hub = and_parts (is_hub o.desc.hub hub) (nat_eq o.desc.tt port) below.0 in
      let classic : is_classic o.desc.speed ≡ true = sym is.want.hub ∙ hub_some o.desc.hub hub at_hub.0 in
      let late = last_completes_are_late y u is classic answers last in
      let planned = owned_planned d apart index hub port k o in
      let first = planned.first in
      let times : ((plans_now d index hub port).times k + 187) / 188 ≡ (time_in y.want + 187) / 188 =
      ap (λ (n : ℕ). (n + 187) / 188) planned.times in
      omega (arith, late, first, times)

  -- two microframes after the first of its plan something of it is worked
  is_worked : (k : Key) (ask : Ask) (b : Brought) (gap now : ℕ) → (plans_now d index hub port).first k + 2 ≤ now
      → Came (plans_now d index hub port) k ask b gap (now - 1) → b ≡ nothing_brought → ⊥
  is_worked k ask b gap now late (unseen is none ahead) nothing = absurd (omega (arith, late, ahead))
  is_worked k ask b gap now late (partial lacks some count bytes begun) nothing =
      let none : b.parts ≡ 0 = ap (λ (x : Brought). x.parts) nothing in
      absurd (omega (arith, some, none))
  is_worked k ask b gap now late (ended whole fits begun) nothing =
      absurd (true≢false (sym whole ∙ ap (λ (x : Brought). x.whole) nothing))

  told : (g : Key → ℕ) (es : List Entry) → All (Coming 6 (plans_now d index hub port) (index % 8)) (watched_of g es)
      → AllAnswered 2 (plans_now d index hub port) (index % 8) (watched_of g es)
      → HaveKeys (IsOwned d index hub port) (watched_of g es) → AllByRecursion (IsToldByLast d index hub port) es
  told g [] comes all keys = tt
  told g (e ∷ es) comes all keys =
      let o : IsOwned d index hub port e.key = keys.0 in (
        record {
          owner = o;
          result = λ u kind asked whole last now.
              let before = ends_before e.key o u (subst (λ (k : EpKind). HasAnswer k (dir_of o.desc.name.way)) (sym kind) tt) last in
              all.0.result asked whole (omega (arith, before, now)) (omega arith);
          worked = λ u kind last now nothing.
              let before = ends_before e.key o u (subst (λ (k : EpKind). HasAnswer k (dir_of o.desc.name.way)) (sym kind) tt) last in
              is_worked e.key e.ask e.heard _ (index % 8) (omega (arith, before, now)) comes.0.heard nothing;
          last = λ u pid bytes kind dir heard last now.
              let before = ends_before e.key o u (answer_of o.desc.kind (dir_of o.desc.name.way) kind dir) last in
              all.0.last pid bytes heard (omega (arith, before, now)) (omega arith);
        },
        told g es comes.1 all.1 keys.1,
      )

pub texts_tell_by_last : TextsTellByLast
texts_tell_by_last text s spelled k i j h t here there =
    let w : World = (moment s k).world in
    let all : WorldKeeps HoldsStuffed w (gaps s k) = texts_hold text s spelled k in
    let hub = at_get (λ n x. HubHolds (IsRight HoldsStuffed w.driver w.registers.frame_index) (plans_now w.driver w.registers.frame_index)
    (w.registers.frame_index % 8) (gaps s k n) x) w.bus.hubs i h all here in
    let one = at_get (λ n x. IsRight HoldsStuffed w.driver w.registers.frame_index h.address (port_at h.translators.multi n)
    (frame_of (plans_now w.driver w.registers.frame_index h.address (port_at h.translators.multi n)) (w.registers.frame_index % 8)
    (gaps s k i n) x))
    h.translators.all j t hub there in
    told w.driver w.registers.frame_index h.address (port_at h.translators.multi j) (scripts_place_right s (spelled_fits text s spelled) k)
    (moment_apart text s spelled k) (gaps s k i j) t.pipeline one.0.comes
    (all_settled (plans_now w.driver w.registers.frame_index h.address (port_at h.translators.multi j)) (w.registers.frame_index % 8)
    (watched_of (gaps s k i j) t.pipeline) one.0.comes one.0.settles) one.1
