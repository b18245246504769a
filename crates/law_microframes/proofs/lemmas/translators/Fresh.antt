-- The start-split of an interrupt endpoint finds no entry of its key of which something is worked.
use Rattle.std.proofs.Common.{◌≡◌, ℕ, ◌-◌, ◌%◌, ◌==◌, ◌||◌, Bool, true, false, List, [], ◌∷◌, Option, Some, None, refl, sym, ap, subst}
use Rattle.std.proofs.Common.{◌∙◌, arith}
use Rattle.std.proofs.Common.{if◌then◌else◌, length}
use Rattle.std.specs.Prelude.{nat_lt}
use Rattle.std.specs.List.{find, list_any}
use Rattle.std.proofs.lemmas.Bool.{eqb-true}
use Rattle.std.proofs.lemmas.Option.{same_Some}
use Rattle.usb_base.specs.declared.packets.Ask.{Ask}
use Rattle.usb_base.specs.declared.packets.DataPart.{DataPart}
use Rattle.usb_base.specs.declared.packets.DataPart.TheVariants.{All as AllOfIt}
use Rattle.usb_base.specs.declared.packets.EpKind.TheVariants as kinds
use Rattle.usb_base.specs.declared.packets.Split.{Split}
use Rattle.usb_base.specs.declared.packets.Split.TheVariants as splits
use Rattle.hub_keys.specs.Keys.{key_of}
use Rattle.hub_keys.specs.declared.key.Key.{Key}
use Rattle.qh_qtd.specs.declared.queue_head.Qh.{Qh}
use Rattle.transactions.specs.Asks.{ask_of}
use Rattle.hc_copy.specs.Buffer.{sending}
use Rattle.hc_copy.specs.Planning.{queue_pipe, split_at}
use Rattle.hc_copy.specs.Transacting.{call_in}
use Rattle.hc_interrupt.specs.Turns.{planned, is_last_of}
use Rattle.tt_pipeline.specs.declared.entry.Brought.{Brought}
use Rattle.tt_pipeline.specs.declared.entry.Entry.{Entry}
use Rattle.tt_pipeline.specs.declared.rows.StartRow.{StartRow}
use Rattle.tt_pipeline.specs.declared.rows.StartRow.TheVariants.{Enters, Forgotten}
use Rattle.tt_pipeline.specs.Starting.{has_key, is_there, row_of_part, start_row}
use Rattle.tt_pipeline.specs.Work.{asked_part, nothing_brought}
use Rattle.bus_world.specs.Budgets.{moment}
use Rattle.bus_world.specs.World.{World}
use Rattle.claims_world.specs.Gaps.{watched_of, gaps}
use Rattle.claims_world.specs.HubPlans.{plans_now}
use Rattle.claims_world.specs.Pipelines.{port_at}
use Rattle.claims_world.specs.Plans.{Plan}
use Rattle.law_translator.specs.Premises.{Follows, FollowsRow}
use Rattle.law_translator.proofs.KeepsStuffed.{HoldsStuffed}
use Rattle.law_translator.proofs.Keys.{same_key}
use Rattle.law_translator.proofs.Owing.{Came, unseen, partial, ended, Coming}
use Rattle.law_translator.proofs.Work.{All}
use Rattle.law_microframes.specs.translators.Fresh.{key_started, StartsFindNoneWorked}
use Rattle.law_microframes.specs.translators.Keeping.{IsRight, WorldKeeps}
use Rattle.law_microframes.specs.translators.Watching.{frame_of, HubHolds}
use Rattle.law_microframes.proofs.lemmas.due.lemmas.repeats.Lists.{position_passes}
use Rattle.law_microframes.proofs.lemmas.translators.Hubs.{at_get}
use Rattle.law_microframes.proofs.lemmas.translators.Starting.{moment_queue_asks}
use Rattle.law_microframes.proofs.lemmas.translators.TurnsRuns.{texts_hold}

-- ---- in the microframe of its first start

came_none : (p : Plan) (k : Key) (ask : Ask) (b : Brought) (g now : ℕ) → p.first k ≡ now → Came p k ask b g (now - 1) → b ≡ nothing_brought
came_none p k ask b g now first (unseen is none ahead) = is
came_none p k ask b g now first (partial lacks some count bytes begun) = absurd (omega (arith, first, begun))
came_none p k ask b g now first (ended whole fits begun) = absurd (omega (arith, first, begun))

found_none : (k : Key) (p : Plan) (now : ℕ) (g : Key → ℕ) (es : List Entry) (e : Entry) → p.first k ≡ now
    → All (Coming 6 p now) (watched_of g es) → find (has_key k) es ≡ Some e → e.heard ≡ nothing_brought
found_none k p now g [] e first all found = absurd (let x : ◌≡◌ {A = Option Entry} None (Some e) = found in cc)
found_none k p now g (x ∷ xs) e first all found = by (found_none k p now g xs e first all.1) (has_key k x) refl
  where
    by : (find (has_key k) xs ≡ Some e → e.heard ≡ nothing_brought) → (b : Bool) → has_key k x ≡ b → e.heard ≡ nothing_brought
    by later false off = later (sym (ap (λ (b : Bool). if b then Some x else find (has_key k) xs) off) ∙ found)
    by later true on =
        let is : x ≡ e = same_Some x e (sym (ap (λ (b : Bool). if b then Some x else find (has_key k) xs) on) ∙ found) in
        let own : p.first x.key ≡ now = ap p.first (same_key x.key k on) ∙ first in
        ap (λ (y : Entry). y.heard) (sym is) ∙ came_none p x.key x.ask x.heard _ now own all.0.heard

there_by : (k : Key) (es : List Entry) (e : Entry) → find (has_key k) es ≡ Some e → is_there k es ≡ true
there_by k [] e found = absurd (let x : ◌≡◌ {A = Option Entry} None (Some e) = found in cc)
there_by k (x ∷ xs) e found = by (there_by k xs e) (has_key k x) refl
  where
    by : (find (has_key k) xs ≡ Some e → is_there k xs ≡ true) → (b : Bool) → has_key k x ≡ b
        → (has_key k x || list_any (has_key k) xs) ≡ true
    by later true on = ap (λ (b : Bool). b || list_any (has_key k) xs) on
    by later false off =
        ap (λ (b : Bool). b || list_any (has_key k) xs) off
        ∙ later (sym (ap (λ (b : Bool). if b then Some x else find (has_key k) xs) off) ∙ found)

-- a start whose key has an entry makes a new one, so it comes when its plan has it
on_time_by : (p : Plan) (now : ℕ) (ask : Ask) (n : ℕ) (es : List Entry) → asked_part ask ≡ AllOfIt → is_there (key_of ask) es ≡ true
    → Follows p now ask n es → now ≡ p.first (key_of ask)
on_time_by p now ask n es whole there follows =
    let row : start_row ask n es ≡ Enters =
    ap (λ (part : DataPart). row_of_part part (key_of ask) n es) whole
    ∙ ap (λ (b : Bool). if b || nat_lt (length es) 256 then Enters else Forgotten) there in
    (subst (λ (r : StartRow). FollowsRow r p now ask n es) row follows).on_time

-- ---- the start-split

module _ (q : Qh) (below : (q.eps == 2) ≡ false) (first : q.token.split_state ≡ false) where
  its_split : (planned q).split ≡ splits.Start q.hub q.port AllOfIt
  its_split =
      ap (λ (b : Bool). split_at b q.token.split_state (queue_pipe kinds.Interrupt q)) below
      ∙ ap (λ (b : Bool). split_at false b (queue_pipe kinds.Interrupt q)) first

  split_is : (out : List ℕ) (last : Bool) → (call_in (planned q) out last).ask.split ≡ splits.Start q.hub q.port AllOfIt
  split_is out last = ap (λ (sp : Split). (ask_of sp (planned q).pipe (planned q).host).split) its_split

  whole_is : (out : List ℕ) (last : Bool) → asked_part (call_in (planned q) out last).ask ≡ AllOfIt
  whole_is out last = ap (λ (sp : Split). asked_part (ask_of sp (planned q).pipe (planned q).host)) its_split

  key_is : (out : List ℕ) (last : Bool) → key_of (call_in (planned q) out last).ask ≡ key_started q
  key_is out last = ap (λ (sp : Split). key_of (ask_of sp (planned q).pipe (planned q).host)) its_split

pub starts_find_none_worked : StartsFindNoneWorked
starts_find_none_worked text s spelled k h start i place hub t e at here serves there found =
    let w : World = (moment s k).world in
    let q : Qh = h.copy.queue_head in
    let out : List ℕ = (sending (planned q) q w.memory).bytes in
    let last : Bool = is_last_of w.control.frame.index q in
    let asks = moment_queue_asks text s spelled k start.part h start.held in
    let fair = asks w.memory start.unsettled start.turn in
    let f = fair q.hub q.port AllOfIt i place hub t (split_is q start.below start.first out last) refl at here
    (eqb-true hub.address q.hub (position_passes (λ x. x.address == q.hub) w.bus.hubs i hub at here)) serves there in
    let key = key_is q start.below start.first out last in
    let first = on_time_by _ _ _ _ t.pipeline (whole_is q start.below start.first out last) (ap (λ (x : Key). is_there x t.pipeline) key
    ∙ there_by (key_started q) t.pipeline e found) f.0 in
    let all : WorldKeeps HoldsStuffed w (gaps s k) = texts_hold text s spelled k in
    let hubs = at_get (λ n x. HubHolds (IsRight HoldsStuffed w.driver w.registers.frame_index) (plans_now w.driver w.registers.frame_index)
    (w.registers.frame_index % 8) (gaps s k n) x) w.bus.hubs i hub all here in
    let one = at_get (λ n x. IsRight HoldsStuffed w.driver w.registers.frame_index hub.address (port_at hub.translators.multi n)
    (frame_of (plans_now w.driver w.registers.frame_index hub.address (port_at hub.translators.multi n)) (w.registers.frame_index % 8)
    (gaps s k i n) x))
    hub.translators.all place t hubs there in
    found_none (key_started q) (plans_now w.driver w.registers.frame_index hub.address (port_at hub.translators.multi place))
    (w.registers.frame_index % 8) (gaps s k i place) t.pipeline e
    (sym (first ∙ ap (plans_now w.driver w.registers.frame_index hub.address (port_at hub.translators.multi place)).first key))
    one.0.comes found
