-- A hub's last request is that of a SETUP to its address: so where each of these is fit, its requests are.
use Rattle.std.proofs.Common.{◌≡◌, ◌≢◌, ℕ, zero, suc, ◌==◌, Bool, true, false, if◌then◌else◌, List, [], ◌∷◌, length, slice_get, slice_set}
use Rattle.std.proofs.Common.{Option, Some, None, ap, refl, sym, subst, ◌∙◌, ⊎_elim, inl, inr}
use Rattle.std.specs.Prelude.{◌&&◌, ◌⊎◌}
use Rattle.std.specs.List.{AllByRecursion}
use Rattle.std.proofs.lemmas.Bool.{and_parts, eqb-true}
use Rattle.std.proofs.lemmas.Option.{same_Some}
use Rattle.law_common.proofs.Lists.{nth_all}
use Rattle.usb_base.specs.declared.packets.Ask.{Ask}
use Rattle.usb_base.specs.declared.packets.Pid.{Pid}
use Rattle.usb_base.specs.declared.packets.Pid.TheVariants as pids
use Rattle.usb_base.specs.declared.packets.Split.{Split}
use Rattle.usb_base.specs.declared.packets.Split.TheVariants.{Plain, Start, Complete}
use Rattle.dev_control.specs.declared.rows.Stage.{Stage}
use Rattle.dev_control.specs.declared.rows.StageRow.TheVariants.{Begins, Ignores}
use Rattle.dev_control.specs.declared.rows.StageToken.{StageToken}
use Rattle.dev_control.specs.declared.rows.StageToken.TheVariants as tokens
use Rattle.dev_control.specs.Stages.{Stages, setup_of, token_of, stage_of, row_by, after_stage_row, stages_acked, stages_after}
use Rattle.dev_control.proofs.Kept.{setup_stays, setup_stays_acked}
use Rattle.hub_ports.specs.declared.rows.HubRequest.{HubRequest}
use Rattle.hub_ports.specs.declared.rows.HubRequest.TheVariants as hub_requests
use Rattle.hub_class.specs.HubContent.{HubContent}
use Rattle.hub_class.specs.Requesting.{effect_if, request_at}
use Rattle.hub_class.specs.EndpointZero.{is_token, reply_under, suits, acts_on, acted_with, row_at, hub_answered_at}
use Rattle.hub_class.specs.EndpointZero.{hub_answered, hub_acked}
use Rattle.hub_class.specs.Translating.{after_split}
use Rattle.bus_wire.specs.declared.asked.Answerer.{Answerer}
use Rattle.bus_wire.specs.declared.asked.Answerer.TheVariants as Answerers
use Rattle.bus_wire.specs.declared.asked.Asked.{Asked}
use Rattle.bus_wire.specs.declared.who_heard.WhoHeard.{WhoHeard}
use Rattle.bus_wire.specs.declared.who_heard.WhoHeard.TheVariants as heard
use Rattle.bus_wire.specs.Asking.{hub_after, translator_after, put_at}
use Rattle.bus_wire.specs.Below.{Floor, hubs_worked, floor_left}
use Rattle.bus_wire.specs.Bus.{Bus, Wired, Fixed, floor_of, asked_of, bus_row, changed_by, after_at}
use Rattle.transactions.specs.Calls.{Call}
use Rattle.hc_copy.specs.Planning.{transaction_of}
use Rattle.hc_copy.specs.Transacting.{call_in}
use Rattle.law_structures.specs.lent_structures.Structures.{StructureSets}
use Rattle.law_ring.specs.Effects.{Asks}
use Rattle.law_ring.specs.Hand.{Hand}
use Rattle.law_ring.specs.Streams.StreamEffect.{same, aside, grows}
use Rattle.law_controller.specs.frame_control.Joined.{BothStreamEffect, begun, moved}
use Rattle.law_world.specs.steps.Streaming.{begins_by, transacts_by}
use Rattle.law_reports.specs.pipes.hub_setups.Setups.{HearsOnly}

-- ---- the request under way

-- a SETUP begins one where it has eight bytes, and else leaves it
setup_then : (token : StageToken) (stage : Stage) (c : Stages) (pid : Pid) (out : List ℕ) → token ≡ tokens.Setup
    → (setup_of (after_stage_row (row_by token stage c pid out) c).request ≡ setup_of c.request)
    ⊎ ((setup_of (after_stage_row (row_by token stage c pid out) c).request ≡ Some out) × (length out ≡ 8))
setup_then tokens.Setup stage c pid out is = by (length out == 8) refl
  where
    by : (b : Bool) → (length out == 8) ≡ b
        → (setup_of (after_stage_row (if b then Begins out else Ignores) c).request ≡ setup_of c.request)
        ⊎ ((setup_of (after_stage_row (if b then Begins out else Ignores) c).request ≡ Some out) × (length out ≡ 8))
    by true eight = inr (refl, eqb-true (length out) 8 eight)
    by false eight = inl refl
setup_then _ stage c pid out is = absurd (cc)

setup_pid : (pid : Pid) → token_of pid ≡ tokens.Setup → pid ≡ pids.Setup
setup_pid pids.Setup is = refl
setup_pid _ is = absurd (cc)

data IsToken (token : StageToken) : Type 0 where
  a_setup : token ≡ tokens.Setup → IsToken token
  no_setup : token ≢ tokens.Setup → IsToken token

which : (token : StageToken) → IsToken token
which tokens.Setup = a_setup refl
which _ = no_setup (λ e. cc)

effect_control : (o : Option HubRequest) (h : HubContent) → (effect_if o h).control ≡ h.control
effect_control None h = refl
effect_control (Some hub_requests.HubStatus) h = refl
effect_control (Some (hub_requests.PortStatus port)) h = refl
effect_control (Some (hub_requests.ChangePort port change)) h = refl
effect_control (Some (hub_requests.ClearBuffer port key)) h = refl
effect_control (Some (hub_requests.ResetTranslator port)) h = refl

effect_address : (o : Option HubRequest) (h : HubContent) → (effect_if o h).address ≡ h.address
effect_address None h = refl
effect_address (Some hub_requests.HubStatus) h = refl
effect_address (Some (hub_requests.PortStatus port)) h = refl
effect_address (Some (hub_requests.ChangePort port change)) h = refl
effect_address (Some (hub_requests.ClearBuffer port key)) h = refl
effect_address (Some (hub_requests.ResetTranslator port)) h = refl

acted_control : (o : Option (List ℕ)) (h : HubContent) → (acted_with o h).control ≡ h.control
acted_control None h = refl
acted_control (Some setup) h = effect_control (request_at setup h) h

acted_address : (o : Option (List ℕ)) (h : HubContent) → (acted_with o h).address ≡ h.address
acted_address None h = refl
acted_address (Some setup) h = effect_address (request_at setup h) h

-- ---- one hub

-- what is sent as a SETUP to the address is fit
abbrev pub IsFit : ℕ → (List ℕ → Type 0) → Ask → List ℕ → Type 0
IsFit a Q ask out = ask.addr ≡ a → ask.pid ≡ pids.Setup → length out ≡ 8 → Q out

module _ (a : ℕ) (Q : List ℕ → Type 0) where
  kept : (h z : HubContent) → z.address ≡ h.address → setup_of z.control.request ≡ setup_of h.control.request → HearsOnly a Q h
      → HearsOnly a Q z
  kept h z address stays old at setup is = old (sym address ∙ at) setup (sym stays ∙ is)

  module _ (ask : Ask) (out : List ℕ) (fit : IsFit a Q ask out) where
    answered_at : (h : HubContent) → suits ask h ≡ true → HearsOnly a Q h → HearsOnly a Q (hub_answered_at ask out h)
    answered_at h suited old = by (which (token_of ask.pid))
      where
        after : Stages
        after = stages_after (reply_under h) h.control ask out

        control : (hub_answered_at ask out h).control ≡ stages_after (reply_under h) h.control ask out
        control = acted_control (acts_on (row_at ask out h) h.control.request) (record h { control = after })

        address : (hub_answered_at ask out h).address ≡ h.address
        address = acted_address (acts_on (row_at ask out h) h.control.request) (record h { control = after })

        by : IsToken (token_of ask.pid) → HearsOnly a Q (hub_answered_at ask out h)
        by (no_setup differs) =
            kept h (hub_answered_at ask out h) address
            (ap (λ (c : Stages). setup_of c.request) control ∙ setup_stays (reply_under h) h.control ask out differs) old
        by (a_setup is) =
            ⊎_elim
            (λ (stays : setup_of after.request ≡ setup_of h.control.request).
            kept h (hub_answered_at ask out h) address (ap (λ (c : Stages). setup_of c.request) control ∙ stays) old)
            (λ (new : (setup_of after.request ≡ Some out) × (length out ≡ 8)) (at : (hub_answered_at ask out h).address ≡ a)
            (setup : List ℕ) (last : setup_of (hub_answered_at ask out h).control.request ≡ Some setup).
            let one = and_parts (ask.addr == h.address && ask.ep == 0) (is_token (token_of ask.pid)) suited in
            let two = and_parts (ask.addr == h.address) (ask.ep == 0) one.0 in
            subst Q (same_Some out setup (sym new.0 ∙ ap (λ (c : Stages). setup_of c.request) (sym control) ∙ last))
            (fit (eqb-true ask.addr h.address two.0 ∙ sym address ∙ at) (setup_pid ask.pid is) new.1))
            (setup_then (token_of ask.pid) (stage_of (reply_under h) h.control) h.control ask.toggle out is)

    answered : (h : HubContent) → HearsOnly a Q h → HearsOnly a Q (hub_answered ask out h)
    answered h old = by (suits ask h) refl
      where
        by : (b : Bool) → suits ask h ≡ b → HearsOnly a Q (if b then hub_answered_at ask out h else h)
        by true suited = answered_at h suited old
        by false suited = old

    acked : (h : HubContent) → HearsOnly a Q h → HearsOnly a Q (hub_acked ask h)
    acked h old = by (suits ask h)
      where
        by : (b : Bool) → HearsOnly a Q (if b then record h { control = stages_acked (reply_under h) h.control } else h)
        by true =
            kept h (record h { control = stages_acked (reply_under h) h.control }) refl (setup_stays_acked (reply_under h) h.control) old
        by false = old

    asked : (row : WhoHeard) (h : HubContent) → HearsOnly a Q h → HearsOnly a Q (hub_after row ask out h)
    asked heard.SentUnheard h old = old
    asked heard.NoAnswer h old = answered h old
    asked heard.AnswerUnheard h old = answered h old
    asked heard.AnswerHeard h old = answered h old
    asked heard.AckUnheard h old = answered h old
    asked heard.AckHeard h old = acked (hub_answered ask out h) (answered h old)

    split_leaves : (split : Split) (stuff : ℕ) (h : HubContent) → HearsOnly a Q h → HearsOnly a Q (after_split split ask out stuff h)
    split_leaves Plain stuff h old = old
    split_leaves (Start hub port part) stuff h old = old
    split_leaves (Complete hub port) stuff h old = old

    translated : (row : WhoHeard) (stuff : ℕ) (h : HubContent) → HearsOnly a Q h → HearsOnly a Q (translator_after row ask out stuff h)
    translated heard.SentUnheard stuff h old = old
    translated heard.NoAnswer stuff h old = split_leaves ask.split stuff h old
    translated heard.AnswerUnheard stuff h old = split_leaves ask.split stuff h old
    translated heard.AnswerHeard stuff h old = split_leaves ask.split stuff h old
    translated heard.AckUnheard stuff h old = split_leaves ask.split stuff h old
    translated heard.AckHeard stuff h old = split_leaves ask.split stuff h old

-- ---- all hubs

module _ (P : HubContent → Type 0) where
  set_all : (hubs : List HubContent) (n : ℕ) (x : HubContent) → P x → AllByRecursion P hubs → AllByRecursion P (slice_set hubs n x)
  set_all [] n x new all = tt
  set_all (h ∷ hs) zero x new all = (new, all.1)
  set_all (h ∷ hs) (suc n) x new all = (all.0, set_all hs n x new all.1)

  put_all : (f : HubContent → HubContent) (n : ℕ) (hubs : List HubContent) (o : Option HubContent) → ((h : HubContent) → P h → P (f h))
      → slice_get hubs n ≡ o → AllByRecursion P hubs → AllByRecursion P (put_at o n f hubs)
  put_all f n hubs None each here all = all
  put_all f n hubs (Some h) each here all = set_all hubs n (f h) (each h (nth_all P hubs n h all here)) all

module _ (a : ℕ) (Q : List ℕ → Type 0) where
  who_hears : (ask : Ask) (out : List ℕ) → IsFit a Q ask out → (row : WhoHeard) (who : Answerer) (b : Bus)
      → AllByRecursion (HearsOnly a Q) b.hubs → AllByRecursion (HearsOnly a Q) (changed_by row who ask out b).hubs
  who_hears ask out fit row (Answerers.Device n) b all = all
  who_hears ask out fit row (Answerers.Hub n) b all =
      put_all (HearsOnly a Q) (hub_after row ask out) n b.hubs (slice_get b.hubs n) (asked a Q ask out fit row) refl all
  who_hears ask out fit row (Answerers.Translator n stuff) b all =
      put_all (HearsOnly a Q) (translator_after row ask out stuff) n b.hubs (slice_get b.hubs n) (translated a Q ask out fit row stuff) refl
      all
  who_hears ask out fit row Answerers.Nobody b all = all

  after_hears : (ask : Ask) (out : List ℕ) → IsFit a Q ask out → (fixed : Fixed) (b : Bus) (o : Option Asked)
      → AllByRecursion (HearsOnly a Q) b.hubs → AllByRecursion (HearsOnly a Q) (after_at fixed b ask out o).hubs
  after_hears ask out fit fixed b None all = all
  after_hears ask out fit fixed b (Some e) all = who_hears ask out fit (bus_row fixed b e ask out) e.who b all

  worked_hears : (fixed : Fixed) (frindex : ℕ) (hs : List HubContent) (floor : Floor) → AllByRecursion (HearsOnly a Q) hs
      → AllByRecursion (HearsOnly a Q) (hubs_worked fixed frindex hs floor)
  worked_hears fixed frindex [] floor all = tt
  worked_hears fixed frindex (h ∷ hs) floor all =
      ((λ at setup is. all.0 at setup is), worked_hears fixed frindex hs (floor_left fixed h floor) all.1)

  -- an event of either walk
  pub event_hears : {Beside : Ask → Type 0} (parts : StructureSets) (hand : Hand) (wire after : Wired) (now : StructureSets)
      (later : Hand) → ((ask : Ask) → Beside ask → (out : List ℕ) → IsFit a Q ask out)
      → ((m : Asks transacts_by parts hand wire after later)
      → IsFit a Q (call_in (transaction_of m.kind m.copy.queue) m.out m.last).ask
      (call_in (transaction_of m.kind m.copy.queue) m.out m.last).out)
      → BothStreamEffect begins_by Beside transacts_by parts hand wire after now later → AllByRecursion (HearsOnly a Q) wire.bus.hubs
      → AllByRecursion (HearsOnly a Q) after.bus.hubs
  event_hears parts hand wire after now later beside asks (begun index allowed begins told) all =
      subst (λ (v : Wired). AllByRecursion (HearsOnly a Q) v.bus.hubs) (sym begins.1)
      (worked_hears wire.fixed index wire.bus.hubs (floor_of wire.bus) all)
  event_hears parts hand wire after now later beside asks (moved (same told quiet)) all =
      subst (λ (v : Wired). AllByRecursion (HearsOnly a Q) v.bus.hubs) (sym quiet) all
  event_hears parts hand wire after now later beside asks (moved (aside told ask out reply is made)) all =
      subst (λ (v : Wired). AllByRecursion (HearsOnly a Q) v.bus.hubs) (sym made.1)
      (after_hears ask out (beside ask is out) wire.fixed wire.bus (asked_of wire.fixed wire.bus ask) all)
  event_hears parts hand wire after now later beside asks (moved (grows m each g)) all =
      let call : Call = call_in (transaction_of m.kind m.copy.queue) m.out m.last in
      subst (λ (v : Wired). AllByRecursion (HearsOnly a Q) v.bus.hubs) (sym m.made.1)
      (after_hears call.ask call.out (asks m) wire.fixed wire.bus (asked_of wire.fixed wire.bus call.ask) all)
