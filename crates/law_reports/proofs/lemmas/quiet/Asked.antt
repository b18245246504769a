-- A queue head of a high-speed endpoint that works asks its own endpoint, which answers as its kind may.
use Rattle.std.proofs.Common.{◌≡◌, ℕ, ◌*◌, ◌==◌, min, Bool, true, false, not, ◌&&◌, ◌||◌, if◌then◌else◌, List, length}
use Rattle.std.proofs.Common.{Some, ap, refl, sym, subst, ◌∙◌, ⊎_elim, inl, inr}
use Rattle.std.specs.Prelude.{◌⊎◌, is_some}
use Rattle.std.proofs.lemmas.Bool.{and_parts, eqb-true, eq-eqb, true≢false}
use Rattle.usb_base.specs.declared.endpoints.EpDesc.{EpDesc}
use Rattle.usb_base.specs.declared.packets.Ask.{Ask}
use Rattle.usb_base.specs.declared.packets.EpKind.{EpKind}
use Rattle.usb_base.specs.declared.packets.EpKind.TheVariants as kinds
use Rattle.usb_base.specs.declared.packets.Pid.{Pid}
use Rattle.usb_base.specs.declared.packets.Pid.TheVariants as pids
use Rattle.usb_base.specs.declared.packets.Speed.{Speed}
use Rattle.usb_base.specs.declared.packets.Speed.TheVariants as speeds
use Rattle.usb_base.specs.declared.packets.Split.{Split}
use Rattle.usb_base.specs.declared.packets.Split.TheVariants.{Plain}
use Rattle.usb_base.specs.declared.packets.Way.{Way}
use Rattle.usb_base.specs.declared.packets.Way.TheVariants as ways
use Rattle.script_types.specs.declared.scripts.Script.{Script}
use Rattle.script_text.specs.Faults.{Spells}
use Rattle.qh_qtd.specs.declared.queue_head.Qh.{Qh}
use Rattle.mem_queues.specs.Structures.{queue_head_at_address}
use Rattle.transactions.specs.Asks.{pinged, token_pid, sends}
use Rattle.transactions.specs.Calls.{moving_of}
use Rattle.hc_copy.specs.declared.held.Transaction.{Transaction}
use Rattle.hc_copy.specs.Planning.{pid_at, speed_at, queue_pipe, host_in, split_at, bytes_out, transaction_of}
use Rattle.hc_copy.specs.Transacting.{call_in}
use Rattle.bus_wire.specs.Bus.{fixed_of, opening_wired, reply_of}
use Rattle.claims_report.specs.Controls.{is_of_hub}
use Rattle.law_devices.specs.Controls.{control_of}
use Rattle.claims_report.specs.Streams.{has_stream}
use Rattle.claims_world.specs.Quiet.{IsHeardAbove}
use Rattle.drv_table.specs.declared.content.Endpoint.{Endpoint}
use Rattle.drv_table.specs.DriverContent.{DriverContent}
use Rattle.drv_table.specs.Kinds.{is_iso}
use Rattle.drv_table.specs.Words.{head_block, is_control, is_high, speed_field}
use Rattle.law_driver.specs.queued_drivers.Queued.{queued_endpoint, IsOfWay}
use Rattle.law_structures.specs.lent_structures.Structures.{QueueHead}
use Rattle.law_structures.specs.lent_structures.Sound.{IsWorking}
use Rattle.law_structures.proofs.lemmas.lent_structures.Altering.{found_queue}
use Rattle.law_structures.proofs.lemmas.lent_structures.Reading.{head_read}
use Rattle.law_ring.specs.OutBus.{Taker}
use Rattle.law_ring.specs.QueueParts.{IsQueuePart}
use Rattle.law_ring.specs.Told.{Endpoint as Told, endpoint_of, HasEndpoint}
use Rattle.law_devices.specs.Senders.{sender_of}
use Rattle.law_devices.specs.scripted_takers.Takers.{taker_of}
use Rattle.law_devices.proofs.lemmas.scripted_takers.Asking.{HasTaker}
use Rattle.law_world.specs.memory.Mixed.{Standing, IsMixedAt}
use Rattle.law_world.specs.memory.pipe_steps.Pipes.{AsksTheWay}
use Rattle.law_world.specs.steps.Streaming.{wired}
use Rattle.law_world.proofs.lemmas.memory.HarvestKept.{tells_of}
use Rattle.law_reports.specs.pipes.Declared.{sides_of, IsDeclaredBy}
use Rattle.law_reports.specs.pipes.Piped.{asked_as}
use Rattle.law_driver.proofs.Common.{get_queued}
use Rattle.law_reports.proofs.lemmas.pipes.Names.{IsMetHead, met_head, by_real, kept_as, queue_same}
use Rattle.law_reports.specs.quiet.Errors.{key_of}
use Rattle.law_reports.specs.quiet.Heard.{is_high_asked, HasControl, IsServed, IsHeardWorld}
use Rattle.law_reports.specs.quiet.Replies.{tells}
use Rattle.law_reports.proofs.lemmas.quiet.Answers.{MayWait, IsOutToken, by_out, by_ping, IsToken, of_setup, of_in, of_out, of_ping}
use Rattle.law_reports.proofs.lemmas.quiet.HeadWords.{head_is_none}
use Rattle.law_reports.proofs.lemmas.quiet.Hearing.{in_tells, out_tells, control_tells, of_hub_tells}
use Rattle.bus_world.specs.World.{World}

-- ---- tokens

pid_cases : (code : ℕ) → (pid_at code ≡ pids.Out) ⊎ ((pid_at code ≡ pids.In) ⊎ (pid_at code ≡ pids.Setup))
pid_cases code = by (code == 0) (code == 1)
  where
    by : (a b : Bool) → ((if a then pids.Out else (if b then pids.In else pids.Setup)) ≡ pids.Out)
        ⊎ (((if a then pids.Out else (if b then pids.In else pids.Setup)) ≡ pids.In)
        ⊎ ((if a then pids.Out else (if b then pids.In else pids.Setup)) ≡ pids.Setup))
    by true b = inl refl
    by false true = inr (inl refl)
    by false false = inr (inr refl)

ping_or_out : (kind : EpKind) (ping : Bool) → IsOutToken (pinged kind ping)
ping_or_out kinds.Iso ping = by_out
ping_or_out kinds.Control true = by_ping
ping_or_out kinds.Control false = by_out
ping_or_out kinds.Bulk true = by_ping
ping_or_out kinds.Bulk false = by_out
ping_or_out kinds.Interrupt true = by_ping
ping_or_out kinds.Interrupt false = by_out

out_is_token : (pid : Pid) → IsOutToken pid → IsToken pid
out_is_token _ by_out = of_out
out_is_token _ by_ping = of_ping

out_no_setup : (pid : Pid) → IsOutToken pid → pid ≡ pids.Setup → ⊥
out_no_setup _ by_out is = cc
out_no_setup _ by_ping is = cc

in_no_setup : pids.In ≡ pids.Setup → ⊥
in_no_setup is = cc

out_no_setup_pid : pids.Out ≡ pids.Setup → ⊥
out_no_setup_pid is = cc

high_by : (v : Speed) → speed_field v ≡ 2 → is_high v ≡ true
high_by speeds.High is = refl
high_by speeds.Full is = absurd (cc)
high_by speeds.Low is = absurd (cc)

-- ---- what its transaction is

module _ (kind : EpKind) (q : Qh) (high : q.eps ≡ 2) (out : List ℕ) (last : Bool) where
  abbrev t : Transaction
  t = transaction_of kind q

  abbrev ask : Ask
  ask = (call_in t out last).ask

  pub plain_ask : ask.split ≡ Plain
  plain_ask = ap (λ (b : Bool). split_at b q.token.split_state (queue_pipe kind q)) (eq-eqb q.eps 2 high)

  pub high_ask : ask.speed ≡ speeds.High
  high_ask = ap speed_at high

  token_with : (v : Pid) → pid_at q.token.pid ≡ v → ask.pid ≡ token_pid Plain v (pinged kind q.token.ping)
  token_with v is =
      ap (λ (split : Split). token_pid split (pid_at q.token.pid) (pinged kind q.token.ping)) plain_ask
      ∙ ap (λ (pid : Pid). token_pid Plain pid (pinged kind q.token.ping)) is

  pub in_ask : pid_at q.token.pid ≡ pids.In → ask.pid ≡ pids.In
  in_ask is = token_with pids.In is

  pub setup_ask : pid_at q.token.pid ≡ pids.Setup → ask.pid ≡ pids.Setup
  setup_ask is = token_with pids.Setup is

  pub out_ask : pid_at q.token.pid ≡ pids.Out → IsOutToken ask.pid
  out_ask is = subst IsOutToken (sym (token_with pids.Out is)) (ping_or_out kind q.token.ping)

  -- a SETUP goes out with all its bytes
  module _ (long : length out ≡ t.bytes) (setup : pid_at q.token.pid ≡ pids.Setup) (whole : q.token.total ≡ 8) (most : q.max ≡ 64) where
    out_is : length out ≡ 8
    out_is =
        long
        ∙ ap (λ (split : Split). bytes_out split (pid_at q.token.pid) (host_in q)) plain_ask
        ∙ ap (λ (pid : Pid). bytes_out Plain pid (host_in q)) setup
        ∙ ap (λ (n : ℕ). min q.max n) whole ∙ ap (λ (n : ℕ). min n 8) most

    pub sent_is : (call_in t out last).sent ≡ 8
    sent_is = ap (λ (split : Split). moving_of split (pid_at q.token.pid) (host_in q) (length out)) plain_ask ∙ out_is

    pub goes_out : length (call_in t out last).out ≡ 8
    goes_out =
        ap (λ (split : Split). length (sends split ask.pid out)) plain_ask
        ∙ ap (λ (pid : Pid). length (sends Plain pid out)) (setup_ask setup)
        ∙ out_is

-- ---- its endpoint

module _ (text : List ℕ) (s : Script) (spelled : Spells text s) (above : IsHeardAbove s) (w : World) (k : IsHeardWorld s w) where
  abbrev st : Standing
  st = k.standing

  abbrev d : DriverContent
  d = w.driver

  mixed : IsMixedAt st w
  mixed = k.piped.mixed

  module _ (n : ℕ) (q : Qh) (on : is_high_asked (key_of q) ≡ true) (near : st.near n ≡ true)
      (here : st.parts n n ≡ Some (QueueHead q)) where
    high : q.eps ≡ 2
    high = eqb-true q.eps 2 (and_parts (q.eps == 2) (q.dtc || not (q.ep == 0)) on).0

    pub of_endpoint : IsMetHead d n
    of_endpoint =
        ⊎_elim
        (λ (head : n ≡ 32 * head_block).
        absurd (head_is_none w.memory d mixed.now.framed.place.fixed q
        (subst (λ (a : ℕ). queue_head_at_address w.memory a ≡ Some q) head (head_read w.memory st.parts n n q (tells_of st w mixed) here))
        (and_parts (q.eps == 2) (q.dtc || not (q.ep == 0)) on).1))
        (λ (h : IsMetHead d n). h) (met_head d st.near mixed.queues.queues.met n near)

    abbrev y : Endpoint
    y = of_endpoint.endpoint

    abbrev x : EpDesc
    x = of_endpoint.endpoint.desc

    ends_is : k.heads.ends n ≡ asked_as x
    ends_is =
        ap k.heads.ends of_endpoint.at ∙ k.piped.named of_endpoint.number of_endpoint.endpoint of_endpoint.here of_endpoint.met

    has_end : (b : Bool) → k.heads.ins n ≡ b → HasEndpoint st.parts n (k.heads.ends n)
    has_end true is = (k.piped.pipes.in_pipes.pipes n is).named
    has_end false is = (k.piped.pipes.in_pipes.others n near is).0

    asked : endpoint_of q ≡ asked_as x
    asked =
        let e = has_end (k.heads.ins n) refl in
        ap endpoint_of (found_queue (st.parts n n) q e.queue here e.head) ∙ sym e.is ∙ ends_is

    pub fast : is_high x.speed ≡ true
    fast = high_by x.speed (sym (ap (λ (e : Told). e.speed) asked) ∙ high)

    pub addr_is : q.addr ≡ x.name.addr
    addr_is = ap (λ (e : Told). e.addr) asked

    pub ep_is : q.ep ≡ x.name.num
    ep_is = ap (λ (e : Told). e.ep) asked

    pub served : IsServed s x
    served = k.served of_endpoint.number of_endpoint.endpoint of_endpoint.here

    queued_kind : is_iso x.kind ≡ false
    queued_kind = (kept_as of_endpoint.endpoint of_endpoint.met.there.kept).1

    fits : IsOfWay x.name.way x.kind
    fits = mixed.turns.kinds_fit of_endpoint.number of_endpoint.endpoint of_endpoint.here

    declared : IsDeclaredBy (sides_of s) x x.name.way
    declared = k.piped.declared of_endpoint.number of_endpoint.endpoint of_endpoint.here

    by_way : AsksTheWay (sides_of s).sends (sides_of s).takes k.heads.ins k.heads.outs k.heads.ends n x.name.way
    by_way =
        subst (λ (i : ℕ). AsksTheWay (sides_of s).sends (sides_of s).takes k.heads.ins k.heads.outs k.heads.ends i x.name.way)
        (sym of_endpoint.at)
        (by_real d (sides_of s).sends (sides_of s).takes k.heads.ins k.heads.outs k.heads.ends k.piped.by_way of_endpoint.number
        of_endpoint.endpoint of_endpoint.here of_endpoint.met)

    -- ---- a data endpoint has its stream

    streams_in : IsOfWay ways.In x.kind → has_stream x.kind ≡ true
    streams_in of = by x.kind queued_kind of
      where
        by : (v : EpKind) → is_iso v ≡ false → IsOfWay ways.In v → has_stream v ≡ true
        by kinds.Bulk one two = refl
        by kinds.Interrupt one two = refl
        by kinds.Control one two = absurd two
        by kinds.Iso one two = absurd (true≢false one)

    streams_out : IsOfWay ways.Out x.kind → has_stream x.kind ≡ true
    streams_out of = by x.kind queued_kind of
      where
        by : (v : EpKind) → is_iso v ≡ false → IsOfWay ways.Out v → has_stream v ≡ true
        by kinds.Bulk one two = refl
        by kinds.Interrupt one two = refl
        by kinds.Control one two = absurd two
        by kinds.Iso one two = absurd (true≢false one)

    both_on : has_stream x.kind ≡ true → (has_stream x.kind && is_high x.speed) ≡ true
    both_on has = ap (λ (b : Bool). b && is_high x.speed) has ∙ fast

    part : IsQueuePart (32 * (queued_endpoint y).queue) (st.parts (32 * (queued_endpoint y).queue))
    part = mixed.queues.sound of_endpoint.number (queued_endpoint y) (get_queued d.endpoints of_endpoint.number y of_endpoint.here)
        of_endpoint.met

    part_here : IsQueuePart n (st.parts n)
    part_here = subst (λ (i : ℕ). IsQueuePart i (st.parts i)) (ap (λ (b : ℕ). 32 * b) (queue_same y) ∙ sym of_endpoint.at) part

    working : q.token.active ≡ true → IsWorking (st.parts n) q
    working active =
        let same : part_here.queue ≡ q = found_queue (st.parts n n) part_here.queue q part_here.here here in
        subst (λ (r : Qh). r.token.active ≡ true → IsWorking (st.parts n) r) same (λ on_it. part_here.sound.work on_it) active

    module _ (active : q.token.active ≡ true) where
      in_on : x.name.way ≡ ways.In → k.heads.ins n ≡ true
      in_on way =
          ⊎_elim (λ (is : k.heads.ins n ≡ true). is)
          (λ (none : (sides_of s).sends (k.heads.ends n).addr (k.heads.ends n).ep ≡ false).
          absurd (true≢false (sym (subst (λ (v : Way). IsDeclaredBy (sides_of s) x v) way declared
          ∙ both_on (streams_in (subst (λ (v : Way). IsOfWay v x.kind) way fits)))
          ∙ (sym (ap (λ (e : Told). (sides_of s).sends e.addr e.ep) ends_is) ∙ none))))
          (subst (λ (v : Way). AsksTheWay (sides_of s).sends (sides_of s).takes k.heads.ins k.heads.outs k.heads.ends n v) way by_way).1

      out_on : x.name.way ≡ ways.Out → k.heads.outs n ≡ true
      out_on way =
          ⊎_elim (λ (is : k.heads.outs n ≡ true). is)
          (λ (none : (sides_of s).takes (k.heads.ends n).addr (k.heads.ends n).ep ≡ false).
          absurd (true≢false (sym (subst (λ (v : Way). IsDeclaredBy (sides_of s) x v) way declared
          ∙ both_on (streams_out (subst (λ (v : Way). IsOfWay v x.kind) way fits)))
          ∙ (sym (ap (λ (e : Told). (sides_of s).takes e.addr e.ep) ends_is) ∙ none))))
          (subst (λ (v : Way). AsksTheWay (sides_of s).sends (sides_of s).takes k.heads.ins k.heads.outs k.heads.ends n v) way by_way).1

      in_pid : x.name.way ≡ ways.In → pid_at q.token.pid ≡ pids.In
      in_pid way =
          let z = working active in
          ap pid_at (z.pid ∙ (k.piped.pipes.in_pipes.pipes n (in_on way)).ins q.current z.element z.here z.published)

      out_pid : x.name.way ≡ ways.Out → pid_at q.token.pid ≡ pids.Out
      out_pid way =
          let z = working active in
          ap pid_at (z.pid ∙ (k.piped.pipes.out_pipes.pipes n (out_on way)).outs q.current z.element z.here z.published)

      end_is : k.heads.ends n ≡ endpoint_of q
      end_is = ends_is ∙ sym asked

      control_on : x.name.way ≡ ways.Ctl → is_control x.kind ≡ true
      control_on way = by x.kind (subst (λ (v : Way). IsOfWay v x.kind) way fits)
        where
          by : (v : EpKind) → v ≡ kinds.Control → is_control v ≡ true
          by v is = ap is_control is

      has_control : x.name.way ≡ ways.Ctl → HasControl s x
      has_control way = served.control (control_on way) fast

      most : x.name.way ≡ ways.Ctl → q.max ≡ 64
      most way = ap (λ (e : Told). e.max) asked ∙ (has_control way).most

      -- ---- what it is told

      module _ (kind : EpKind) (out : List ℕ) (last : Bool) (long : length out ≡ (transaction_of kind q).bytes)
          (whole : pid_at q.token.pid ≡ pids.Setup → q.token.total ≡ 8)
          (may : x.name.way ≡ ways.Out → (u : Taker) (h : HasTaker (wired (fixed_of s) w) q.addr q.ep u)
          → MayWait kind h.at.at.part.taking.items) where
        abbrev its : Ask
        its = (call_in (transaction_of kind q) out last).ask

        abbrev goes : List ℕ
        goes = (call_in (transaction_of kind q) out last).out

        abbrev IsTold : Type 0
        IsTold = tells kind its.pid (reply_of (fixed_of s) w.bus its goes) ≡ true

        plain : its.split ≡ Plain
        plain = plain_ask kind q high out last

        told_in : x.name.way ≡ ways.In → IsTold
        told_in way =
            let p = k.piped.pipes.in_pipes.pipes n (in_on way) in
            in_tells s above w.bus k.bus kind its goes plain (in_ask kind q high out last (in_pid way)) p.sender
            (ap (λ (e : Told). sender_of (wired (fixed_of s) w) e.addr e.ep) (sym end_is) ∙ p.is)

        told_out : x.name.way ≡ ways.Out → IsTold
        told_out way =
            let p = k.piped.pipes.out_pipes.pipes n (out_on way) in
            out_tells s above w.bus k.bus kind its goes plain (out_ask kind q high out last (out_pid way)) p.taker
            (ap (λ (e : Told). taker_of (wired (fixed_of s) w) e.addr e.ep) (sym end_is) ∙ p.is) (may way p.taker)

        module _ (way : x.name.way ≡ ways.Ctl) where
          its_token : IsToken its.pid
          its_token =
              ⊎_elim (λ (is : pid_at q.token.pid ≡ pids.Out). out_is_token its.pid (out_ask kind q high out last is))
              (λ (more : (pid_at q.token.pid ≡ pids.In) ⊎ (pid_at q.token.pid ≡ pids.Setup)).
              ⊎_elim (λ (is : pid_at q.token.pid ≡ pids.In). subst IsToken (sym (in_ask kind q high out last is)) of_in)
              (λ (is : pid_at q.token.pid ≡ pids.Setup). subst IsToken (sym (setup_ask kind q high out last is)) of_setup) more)
              (pid_cases q.token.pid)

          its_setup : its.pid ≡ pids.Setup → length goes ≡ 8
          its_setup token =
              ⊎_elim (λ (is : pid_at q.token.pid ≡ pids.Out). absurd (out_no_setup its.pid (out_ask kind q high out last is) token))
              (λ (more : (pid_at q.token.pid ≡ pids.In) ⊎ (pid_at q.token.pid ≡ pids.Setup)).
              ⊎_elim (λ (is : pid_at q.token.pid ≡ pids.In). absurd (in_no_setup (sym (in_ask kind q high out last is) ∙ token)))
              (λ (is : pid_at q.token.pid ≡ pids.Setup). goes_out kind q high out last long is (whole is) (most way)) more)
              (pid_cases q.token.pid)

          told_control : IsTold
          told_control =
              let c = has_control way in
              ⊎_elim
              (λ (hub : is_of_hub s x.name.addr ≡ true).
              of_hub_tells s above w.bus k.bus kind its goes plain its_token its_setup (ap (is_of_hub s) addr_is ∙ hub) (ep_is ∙ c.zero))
              (λ (device : is_some (control_of (opening_wired s) x.name.addr x.name.num) ≡ true).
              control_tells s above w.bus k.bus kind its goes plain its_token its_setup
              (ap (λ (a : ℕ). is_some (control_of (wired (fixed_of s) w) a q.ep)) addr_is
              ∙ ap (λ (e : ℕ). is_some (control_of (wired (fixed_of s) w) x.name.addr e)) ep_is
              ∙ k.bus.controls x.name.addr x.name.num device)) c.of

        by_its_way : (way : Way) → x.name.way ≡ way → IsTold
        by_its_way ways.In is = told_in is
        by_its_way ways.Out is = told_out is
        by_its_way ways.Ctl is = told_control is

        pub is_told : IsTold
        is_told = by_its_way x.name.way refl

        pub is_plain : its.split ≡ Plain
        is_plain = plain

        pub is_fast : its.speed ≡ speeds.High
        is_fast = high_ask kind q high out last

        -- a SETUP goes out whole
        pub is_whole : pid_at q.token.pid ≡ pids.Setup
            → (its.pid ≡ pids.Setup) × (((call_in (transaction_of kind q) out last).sent ≡ 8) × ((host_in q).left ≡ 8))
        is_whole setup = by x.name.way refl
          where
            by : (way : Way) → x.name.way ≡ way
                → (its.pid ≡ pids.Setup) × (((call_in (transaction_of kind q) out last).sent ≡ 8) × ((host_in q).left ≡ 8))
            by ways.In is = absurd (in_no_setup (sym (in_pid is) ∙ setup))
            by ways.Out is = absurd (out_no_setup_pid (sym (out_pid is) ∙ setup))
            by ways.Ctl is = (
              setup_ask kind q high out last setup,
              (sent_is kind q high out last long setup (whole setup) (most is), whole setup),
            )
