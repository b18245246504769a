-- The key of a bulk or control endpoint below a hub stands as it must after each transaction, and where a microframe begins.
use Rattle.std.proofs.Common.{◌≡◌, ◌≢◌, ℕ, Bool, true, false, List, slice_get}
use Rattle.std.proofs.Common.{Option, Some, None, ap, refl, sym, subst, ◌∙◌}
use Rattle.std.proofs.lemmas.Bool.{false≢true}
use Rattle.std.proofs.lemmas.Option.{same_Some}
use Rattle.usb_base.specs.declared.packets.Ask.{Ask}
use Rattle.usb_base.specs.declared.packets.DataPart.TheVariants as Parts
use Rattle.usb_base.specs.declared.packets.EpKind.{EpKind}
use Rattle.usb_base.specs.declared.packets.EpKind.TheVariants as Kinds
use Rattle.usb_base.specs.declared.packets.Pid.{Pid}
use Rattle.usb_base.specs.declared.packets.Pid.TheVariants as Pids
use Rattle.usb_base.specs.declared.packets.Reply.{Reply}
use Rattle.usb_base.specs.declared.packets.Reply.TheVariants as Replies
use Rattle.usb_base.specs.declared.packets.Split.{Split}
use Rattle.usb_base.specs.declared.packets.Split.TheVariants.{Plain, Start, Complete}
use Rattle.toggle_error.specs.declared.host.HostSide.{HostSide}
use Rattle.toggle_error.specs.declared.rows.Heard.TheVariants as Heards
use Rattle.toggle_error.specs.Columns.{limit_of, out_token, token_at, heard_of}
use Rattle.toggle_error.specs.SplitRows.{start_row, after_start}
use Rattle.hub_keys.specs.Keys.{key_of}
use Rattle.hub_keys.specs.declared.key.Key.{Key}
use Rattle.hub_class.specs.HubContent.{HubContent}
use Rattle.multi_tt.specs.Calls.{port_of}
use Rattle.multi_tt.specs.Translators.{place_of}
use Rattle.tt_bulk.specs.Contents.{Taken}
use Rattle.bus_wire.specs.Asking.{translator_answer}
use Rattle.bus_wire.specs.Bus.{Wired}
use Rattle.qh_qtd.specs.declared.queue_head.Qh.{Qh}
use Rattle.drv_table.specs.Words.{is_control}
use Rattle.transactions.specs.Calls.{complete_sent}
use Rattle.hc_copy.specs.declared.held.Transaction.{Transaction}
use Rattle.hc_copy.specs.Planning.{pid_at, speed_at, host_in, transaction_of}
use Rattle.hc_copy.specs.Transacting.{call_in, host_after}
use Rattle.law_devices.specs.scripted_requests.Controls.{transacts_by}
use Rattle.law_translated.specs.Lift.{Way, Buffered, IsQuiet, told, Empty, Asked, Hidden, There, Told}
use Rattle.law_translated.specs.KeyHubs.{HubStartsOwn, HubCompletesOwn}
use Rattle.law_translated.specs.KeyLaws.{start_of}
use Rattle.law_translated.specs.KeySlots.{KeySlot, way_of}
use Rattle.law_translated.specs.KeySteps.{OwnStart, OtherStart, stays, forgets, given_reply}
use Rattle.law_translated.specs.KeySteps.OwnStart.{starts as own_starts, repeats as own_repeats, is_full as own_is_full}
use Rattle.law_translated.specs.KeySteps.OwnStart.{replaces as own_replaces, starts_none as own_starts_none}
use Rattle.law_translated.proofs.HubCalls.{hub_start_by_key, hub_complete_by_key}
use Rattle.law_below_hubs.specs.Awaited.{suits, IsAwaited, StandsAs, awaits, HasEnd, KeyStands, Asking, Moves, Controls, its_kind}
use Rattle.law_below_hubs.specs.Awaited.{own_key, IsHostOf, RestsIdle, OwnSplitsAreAwaited, OthersLeaveKey}
use Rattle.law_below_hubs.specs.HubsKeys.{HubsHave}
use Rattle.law_below_hubs.specs.HostIns.{SparesKey}
use Rattle.law_below_hubs.specs.HostOuts.{its_way, IsOfOther}
use Rattle.law_below_hubs.specs.Splits.{IsAtHub, StartHeard, StartsAtHub, LeavesKey, CompleteHeard, CompletesAtHub}
use Rattle.law_below_hubs.proofs.AwaitedEnds.{ask_keeps_end}
use Rattle.law_below_hubs.proofs.AwaitedSettles.{Back, code_answered, code_whole}
use Rattle.law_below_hubs.proofs.HostBeside.{other_key}
use Rattle.law_below_hubs.proofs.HostSettles.{starting, completing, is_starting, is_completing}
use Rattle.law_below_hubs.proofs.Splits.{own_has, start_says, complete_says}
use Rattle.law_below_hubs.proofs.SplitsBeside.{splits_by_key}

-- ---- the hub answers

start_known : (a : Taken) (s : KeySlot) (r : Reply) (new : KeySlot) → OwnStart Buffered a s r new → r ≢ Replies.Silent
start_known a s _ _ (own_starts quiet) is = cc
start_known a s _ _ (own_repeats way busy) is = cc
start_known a s _ _ (own_is_full way empty) is = cc
start_known a s _ _ (own_replaces way busy) is = absurd cc
start_known a s _ _ (own_starts_none way empty) is = absurd cc

start_speaks : (hub port i place : ℕ) (ask : Ask) (out : List ℕ) (hubs : List HubContent) (s : KeySlot)
    → ask.split ≡ Start hub port Parts.All → way_of ask.kind ≡ Some Buffered → IsAtHub hubs hub port i place
    → HubsHave Buffered (key_of ask) i place hubs s → translator_answer (slice_get hubs i) ask ≢ Replies.Silent
start_speaks hub port i place ask out hubs s split kind at has silent =
    let r : HubStartsOwn Buffered ask out 0 place at.content.translators s =
    hub_start_by_key.own Buffered ask out 0 place at.content.translators s kind
    (ap (λ (x : Split). place_of at.content.translators.multi (port_of x)) split ∙ at.place_is)
    (own_has Buffered (key_of ask) i place hubs at.content s has at.there) in
    start_known (start_of ask out 0) s r.reply r.slot r.step
    (same_Some r.reply Replies.Silent (sym r.answer
    ∙ ap Some (sym (start_says hub port Parts.All ask at.content split)
    ∙ ap (λ (o : Option HubContent). translator_answer o ask) (sym at.there) ∙ silent)))

awaited_known : (token : Pid) (s : KeySlot) → IsAwaited token s → given_reply Buffered s ≢ Replies.Silent
awaited_known token Empty is silent = is
awaited_known token (Asked a) is silent = cc
awaited_known token (Hidden a r) is silent = is
awaited_known token (There a r) is silent = false≢true (sym (none token) ∙ (ap (suits token) (sym silent) ∙ is))
  where
    none : (p : Pid) → suits p Replies.Silent ≡ false
    none Pids.In = refl
    none Pids.Out = refl
    none Pids.Setup = refl
    none _ = refl
awaited_known token (Told a r) is silent = is

complete_speaks : (token : Pid) (hub port i place : ℕ) (ask : Ask) (hubs : List HubContent) (s : KeySlot)
    → ask.split ≡ Complete hub port → way_of ask.kind ≡ Some Buffered → IsAtHub hubs hub port i place
    → HubsHave Buffered (key_of ask) i place hubs s → IsAwaited token s → translator_answer (slice_get hubs i) ask ≢ Replies.Silent
complete_speaks token hub port i place ask hubs s split kind at has awaited silent =
    let r : HubCompletesOwn Buffered ask place at.content.translators s =
    hub_complete_by_key.own Buffered ask place at.content.translators s kind
    (ap (λ (x : Split). place_of at.content.translators.multi (port_of x)) split ∙ at.place_is)
    (own_has Buffered (key_of ask) i place hubs at.content s has at.there) in
    awaited_known token s awaited
    (same_Some (given_reply Buffered s) Replies.Silent (sym r.answer
    ∙ ap Some (sym (complete_says hub port ask at.content split)
    ∙ ap (λ (o : Option HubContent). translator_answer o ask) (sym at.there) ∙ silent)))

-- ---- the host's own transactions

kind_buffered : (a : Asking) → way_of (its_kind a) ≡ Some Buffered
kind_buffered (Moves code) = refl
kind_buffered Controls = refl

module _ (a : Asking) (q : Qh) (i place : ℕ) (w v : Wired) (out : List ℕ) (reply : Reply) (at : IsHostOf a q)
    (works : q.token.active ≡ true) (hub : IsAtHub w.bus.hubs q.hub q.port i place) where
  abbrev kind : EpKind
  kind = its_kind a

  abbrev code : ℕ
  code = q.token.pid

  abbrev Says : Ask → Type 0
  Says ask = reply ≡ translator_answer (slice_get w.bus.hubs i) ask

  abbrev key : Key
  key = own_key (its_kind a) q.token.pid q

  with_slot : (o : Option Pid) (slot : KeySlot) (ask : Ask) (sent : List ℕ) → transacts_by w ask sent reply v
      → HubsHave Buffered (own_key (its_kind a) q.token.pid q) i place v.bus.hubs slot
      → StandsAs o slot
      → HasEnd (is_control (its_kind a)) (own_key (its_kind a) q.token.pid q).dir w.fixed w.bus.devices q.addr q.ep
      → KeyStands (own_key (its_kind a) q.token.pid q) i place v o
  with_slot o slot ask sent made has stands ends = record {
    slot = slot;
    has = has;
    stands = stands;
    ends = ask_keeps_end (is_control (its_kind a)) (own_key (its_kind a) q.token.pid q).dir w ask sent reply v q.addr q.ep made ends;
  }

  -- what is known of the host's side after it
  record Came (z : HostSide) : Type 0 where
    key : KeyStands (own_key (its_kind a) q.token.pid q) i place v (awaits z.waiting (pid_at q.token.pid))
    errors : z.cerr ≡ q.token.cerr
    rests : RestsIdle z
    whole : pid_at q.token.pid ≡ Pids.Setup → limit_of (host_in q) ≡ q.token.total → z.active ≡ true → z.left ≡ q.token.total

  -- ---- a start-split

  module _ (state : q.token.split_state ≡ false) (o : KeyStands (own_key (its_kind a) q.token.pid q) i place w None) where
    abbrev start_ask : Ask
    start_ask = (call_in (starting (its_kind a) q q.token.pid) out false).ask

    abbrev start_out : List ℕ
    start_out = (call_in (starting (its_kind a) q q.token.pid) out false).out

    module _ (made : transacts_by w start_ask start_out reply v) (says : reply ≡ translator_answer (slice_get w.bus.hubs i) start_ask) where
      answered : reply ≢ Replies.Silent
      answered silent =
          start_speaks q.hub q.port i place start_ask start_out w.bus.hubs o.slot refl (kind_buffered a) hub o.has (sym says ∙ silent)

      heard : StartsAtHub Buffered i place start_ask start_out o.slot reply v
      heard =
          splits_by_key.starts Buffered i place q.hub q.port Parts.All w start_ask start_out reply v o.slot refl (kind_buffered a) hub o.has
          made

      keeps : (u : Option Pid) → StandsAs u heard.slot → KeyStands (own_key (its_kind a) q.token.pid q) i place v u
      keeps u stands = with_slot u heard.slot start_ask start_out made heard.has stands o.ends

      abbrev After_start : Reply → HostSide
      After_start r = after_start (start_row (its_kind a) (heard_of (host_in q) r)) (host_in q)

      came : (r : Reply) → reply ≡ r → Came (After_start r) → Came (After_start reply)
      came r is c = subst (λ (x : Reply). Came (After_start x)) (sym is) c

      -- whichever kind it is of
      accepted : KeyStands (own_key (its_kind a) q.token.pid q) i place v (Some (pid_at q.token.pid))
          → Came (After_start (Replies.Hand Pids.Ack))
      accepted k = by a k
        where
          by : (b : Asking) → KeyStands (own_key (its_kind a) q.token.pid q) i place v (Some (pid_at q.token.pid))
              → Came (after_start (start_row (its_kind b) Heards.Ack) (host_in q))
          by (Moves its) k = record {
            key = k;
            errors = refl;
            rests = λ off. absurd (false≢true (sym off ∙ works));
            whole = λ setup whole on. refl;
          }
          by Controls k = record {
            key = k;
            errors = refl;
            rests = λ off. absurd (false≢true (sym off ∙ works));
            whole = λ setup whole on. refl;
          }

      declined : KeyStands (own_key (its_kind a) q.token.pid q) i place v None → Came (After_start (Replies.Hand Pids.Nak))
      declined k = by a
        where
          still : Came (host_in q)
          still = record {
            key =
                subst (λ (b : Bool). KeyStands (own_key (its_kind a) q.token.pid q) i place v (awaits b (pid_at q.token.pid)))
                (sym state) k;
            errors = refl;
            rests = λ off. state;
            whole = λ setup whole on. refl;
          }

          by : (b : Asking) → Came (after_start (start_row (its_kind b) Heards.Nak) (host_in q))
          by (Moves its) = still
          by Controls = still

      of_own : (r : Reply) (new : KeySlot) → reply ≡ r → new ≡ heard.slot
          → OwnStart Buffered (start_of start_ask start_out heard.stuff) o.slot r new → Came (After_start reply)
      of_own _ _ is at_slot (own_starts quiet) =
          came (Replies.Hand Pids.Ack) is
          (accepted (keeps (Some (pid_at q.token.pid)) (subst (IsAwaited (pid_at q.token.pid)) at_slot refl)))
      of_own _ _ is at_slot (own_repeats way busy) = absurd (busy o.stands)
      of_own _ _ is at_slot (own_is_full way empty) =
          came (Replies.Hand Pids.Nak) is (declined (keeps None (subst IsQuiet at_slot o.stands)))
      of_own _ _ is at_slot (own_replaces way busy) = absurd cc
      of_own _ _ is at_slot (own_starts_none way empty) = absurd cc

      by_step : (r : Reply) (new : KeySlot) → reply ≡ r → new ≡ heard.slot
          → StartHeard Buffered (start_of start_ask start_out heard.stuff) o.slot r new → Came (After_start reply)
      by_step _ _ is at_slot StartHeard.lost = absurd (answered is)
      by_step _ _ is at_slot (StartHeard.heard answer new own) = of_own answer new is at_slot own
      by_step _ _ is at_slot (StartHeard.unheard answer new own) = absurd (answered is)

      started : Came (host_after (starting (its_kind a) q q.token.pid) out false reply)
      started = by_step reply heard.slot refl refl heard.step

  -- ---- a complete-split

  module _ (state : q.token.split_state ≡ true)
      (o : KeyStands (own_key (its_kind a) q.token.pid q) i place w (Some (pid_at q.token.pid))) where
    abbrev complete_ask : Ask
    complete_ask = (call_in (completing (its_kind a) q q.token.pid) out false).ask

    abbrev complete_out : List ℕ
    complete_out = (call_in (completing (its_kind a) q q.token.pid) out false).out

    module _ (made : transacts_by w complete_ask complete_out reply v)
        (says : reply ≡ translator_answer (slice_get w.bus.hubs i) complete_ask) where
      told_some : reply ≢ Replies.Silent
      told_some silent =
          complete_speaks (pid_at q.token.pid) q.hub q.port i place complete_ask w.bus.hubs o.slot refl (kind_buffered a) hub o.has o.stands
          (sym says ∙ silent)

      told_at : CompletesAtHub Buffered i place complete_ask o.slot reply v
      told_at =
          splits_by_key.completes Buffered i place q.hub q.port w complete_ask complete_out reply v o.slot refl
          (kind_buffered a) hub o.has made

      abbrev Given : Reply → HostSide
      Given r = Back (its_kind a) (token_at (pid_at q.token.pid) (out_token (speed_at q.eps) (its_kind a))) (heard_of (host_in q) r)
          (complete_sent (pid_at q.token.pid) (host_in q)) (host_in q)

      stands_then : (u : Option Pid) → StandsAs u told_at.slot → KeyStands (own_key (its_kind a) q.token.pid q) i place v u
      stands_then u stands = with_slot u told_at.slot complete_ask complete_out made told_at.has stands o.ends

      pending : KeyStands (own_key (its_kind a) q.token.pid q) i place v (Some (pid_at q.token.pid)) → Came (Given (Replies.Hand Pids.Nyet))
      pending k = by a
        where
          still : Came (host_in q)
          still = record {
            key =
                subst (λ (b : Bool). KeyStands (own_key (its_kind a) q.token.pid q) i place v (awaits b (pid_at q.token.pid)))
                (sym state) k;
            errors = refl;
            rests = λ off. absurd (false≢true (sym off ∙ works));
            whole = λ setup whole on. refl;
          }

          by : (b : Asking) → Came (Back (its_kind b) (token_at (pid_at q.token.pid) (out_token (speed_at q.eps) (its_kind a))) Heards.Nyet
              (complete_sent (pid_at q.token.pid) (host_in q)) (host_in q))
          by (Moves its) = still
          by Controls = still

      given : (s : KeySlot) → IsAwaited (pid_at q.token.pid) s → told_at.slot ≡ told s → Came (Given (given_reply Buffered s))
      given Empty is at_slot = absurd is
      given (Asked x) is at_slot =
          pending (stands_then (Some (pid_at q.token.pid)) (subst (IsAwaited (pid_at q.token.pid)) (sym at_slot) is))
      given (Hidden x r) is at_slot = absurd is
      given (There x r) is at_slot =
          let z = code_answered a q.token.pid (speed_at q.eps) (host_in q) r (complete_sent (pid_at q.token.pid) (host_in q)) is in
          record {
            key = subst (λ (b : Bool). KeyStands (own_key (its_kind a) q.token.pid q) i place v (awaits b (pid_at q.token.pid)))
                (sym z.waiting) (stands_then None (subst IsQuiet (sym at_slot) tt));
            errors = z.errors;
            rests = λ off. z.waiting;
            whole = code_whole a q.token.pid (speed_at q.eps) (host_in q) r is;
          }
      given (Told x r) is at_slot = absurd is

      by_told : (r : Reply) (new : KeySlot) → reply ≡ r → told_at.slot ≡ new → CompleteHeard Buffered o.slot r new → Came (Given reply)
      by_told _ _ is at_slot CompleteHeard.lost = absurd (told_some is)
      by_told _ _ is at_slot CompleteHeard.heard =
          subst (λ (r : Reply). Came (Given r)) (sym is) (given o.slot o.stands at_slot)
      by_told _ _ is at_slot CompleteHeard.unheard = absurd (told_some is)

      completed : Came (host_after (completing (its_kind a) q q.token.pid) out false reply)
      completed = by_told reply told_at.slot refl refl told_at.step

  -- ---- either

  abbrev Made : Transaction → Type 0
  Made t = transacts_by w (call_in t out false).ask (call_in t out false).out reply v

  by_state : (b : Bool) → q.token.split_state ≡ b → Made (transaction_of (its_kind a) q)
      → Says (call_in (transaction_of (its_kind a) q) out false).ask
      → KeyStands (own_key (its_kind a) q.token.pid q) i place w (awaits b (pid_at q.token.pid))
      → Came (host_after (transaction_of (its_kind a) q) out false reply)
  by_state false state made says o =
      let is = is_starting (its_kind a) q q.token.pid at.below state refl in
      subst (λ (t : Transaction). Came (host_after t out false reply)) (sym is)
      (started state o (subst Made is made) (subst (λ (t : Transaction). Says (call_in t out false).ask) is says))
  by_state true state made says o =
      let is = is_completing (its_kind a) q q.token.pid at.below state refl in
      subst (λ (t : Transaction). Came (host_after t out false reply)) (sym is)
      (completed state o (subst Made is made) (subst (λ (t : Transaction). Says (call_in t out false).ask) is says))

pub own_splits_are_awaited : OwnSplitsAreAwaited
own_splits_are_awaited a q i place w v out reply at works hub made says o =
    let z = by_state a q i place w v out reply at works hub q.token.split_state refl made says o in
    record { key = z.key; errors = z.errors; rests = z.rests; whole = z.whole }

-- ---- all others

quiet_left : (o : Option Pid) (s new : KeySlot) → OtherStart Buffered s new → StandsAs o s → StandsAs o new
quiet_left o s _ stays k = k
quiet_left None s _ (forgets a r way is) k = tt
quiet_left (Some pid) s _ (forgets a r way is) k = absurd (subst (IsAwaited pid) is k)

pub buffered_way : (kind : EpKind) → way_of kind ≡ Some Buffered → its_way kind ≡ Buffered
buffered_way Kinds.Bulk is = refl
buffered_way Kinds.Control is = refl
buffered_way Kinds.Interrupt is = absurd cc
buffered_way Kinds.Iso is = absurd cc

module _ (k : Key) (i place : ℕ) (w : Wired) (ask : Ask) (out : List ℕ) (reply : Reply) (v : Wired) (o : Option Pid)
    (kind_is : way_of k.kind ≡ Some Buffered) (other : IsOfOther k ask)
    (spares : SparesKey k i place w ask v) (made : transacts_by w ask out reply v)
    (z : KeyStands k i place w o) where
  its_way_is : its_way k.kind ≡ Buffered
  its_way_is = buffered_way k.kind kind_is

  side_with : (slot : KeySlot) → HubsHave Buffered k i place v.bus.hubs slot → StandsAs o slot → KeyStands k i place v o
  side_with slot has stands = record {
    slot = slot;
    has = has;
    stands = stands;
    ends = ask_keeps_end (is_control k.kind) k.dir w ask out reply v k.addr k.ep made z.ends;
  }

  by_split : (split : Split) → ask.split ≡ split → KeyStands k i place v o
  by_split Plain is =
      side_with z.slot
      (subst (λ (way : Way). HubsHave way k i place v.bus.hubs z.slot) its_way_is
      (spares is z.slot (subst (λ (way : Way). HubsHave way k i place w.bus.hubs z.slot) (sym its_way_is) z.has))) z.stands
  by_split (Start hub port part) is =
      let l : LeavesKey Buffered k i place z.slot v =
      splits_by_key.starts_other Buffered k i place hub port part w ask out reply v z.slot is kind_is (other_key k ask other) z.has made in
      side_with l.slot l.has (quiet_left o z.slot l.slot l.step z.stands)
  by_split (Complete hub port) is =
      side_with z.slot
      (splits_by_key.completes_other Buffered k i place hub port w ask out reply v z.slot is kind_is (other_key k ask other) z.has made)
      z.stands

pub others_leave_key : OthersLeaveKey
others_leave_key k i place w ask out reply v o kind_is other spares made z =
    by_split k i place w ask out reply v o kind_is other spares made z ask.split refl
