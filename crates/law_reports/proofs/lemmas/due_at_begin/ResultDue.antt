-- What a translator has for an interrupt endpoint as a microframe begins in which a complete-split of it is due is what the host hears in
-- it; and a result is taken (EHCI 1.0, 4.10.3 and 4.12.2.4.2; USB 2.0, 8.6, 11.18.4 and 11.20).
use Rattle.std.proofs.Common.{◌≡◌, ◌≢◌, ℕ, ◌*◌, Bool, List, slice_get, Some, ap, refl, sym, subst, ◌∙◌, arith}
use Rattle.std.specs.Prelude.{◌==◌, ◌&&◌, false, true}
use Rattle.std.proofs.lemmas.Bool.{and_parts, eqb-true, false≢true}
use Rattle.usb_base.specs.declared.endpoints.EpDesc.{EpDesc}
use Rattle.usb_base.specs.declared.endpoints.EpName.{EpName}
use Rattle.usb_base.specs.declared.packets.Ask.{Ask}
use Rattle.usb_base.specs.declared.packets.Dir.{Dir}
use Rattle.usb_base.specs.declared.packets.Dir.TheVariants as dirs
use Rattle.usb_base.specs.declared.packets.EpKind.{EpKind}
use Rattle.usb_base.specs.declared.packets.EpKind.TheVariants as kinds
use Rattle.usb_base.specs.declared.packets.EpKind.TheVariants.{Interrupt}
use Rattle.usb_base.specs.declared.packets.Pid.{Pid}
use Rattle.usb_base.specs.declared.packets.Pid.TheVariants as pids
use Rattle.usb_base.specs.declared.packets.Reply.{Reply}
use Rattle.usb_base.specs.declared.packets.Way.{Way}
use Rattle.usb_base.specs.declared.packets.Way.TheVariants as ways
use Rattle.script_types.specs.declared.scripts.Script.{Script}
use Rattle.script_text.specs.Faults.{Spells}
use Rattle.hub_keys.specs.Keys.{key_of, is_same_key, is_same_direction, is_same_kind, direction_of}
use Rattle.qh_qtd.specs.declared.queue_head.Qh.{Qh}
use Rattle.qh_qtd.specs.declared.token.Token.{Token}
use Rattle.mem_queues.specs.Structures.{queue_head_at_address}
use Rattle.drv_periodic_table.specs.Periodic.{dir_of}
use Rattle.drv_table.specs.declared.content.Endpoint.{Endpoint}
use Rattle.hc_copy.specs.declared.held.Transaction.{Transaction}
use Rattle.hc_copy.specs.Planning.{pid_at}
use Rattle.hc_copy.specs.Transacting.{call_in}
use Rattle.bus_wire.specs.declared.seats.Seat.{Seat}
use Rattle.bus_wire.specs.declared.seats.TokenKind.{TokenKind}
use Rattle.bus_wire.specs.declared.seats.TokenKind.TheVariants as tokens
use Rattle.bus_wire.specs.Bus.{Bus, Fixed, fixed_of, reply_of}
use Rattle.bus_wire.specs.Seats.{token_kind, place_for, suits, takes_token}
use Rattle.bus_world.specs.World.{World}
use Rattle.claims_world.specs.Due.{token_by}
use Rattle.claims_world.specs.QueuesMade.{QueueMade}
use Rattle.law_devices.specs.declared_controls.Names.{IsNameOf}
use Rattle.law_devices.proofs.Places.{position_passes}
use Rattle.law_driver.specs.queued_drivers.Queued.{IsOfWay}
use Rattle.law_world.specs.memory.Mixed.{Standing, IsMixedWorld}
use Rattle.law_world.specs.streams.Left.{AreNamed}
use Rattle.law_microframes.specs.due.repeats.Hearing.{IsHeardOn}
use Rattle.law_microframes.specs.time.DataQueues.{pid_of, QueuesSendData}
use Rattle.law_microframes.specs.translators.Results.{key_for, HasAnswer, IsAnswerDue, IsResultDue, IsAnswered, IsTaken, AnswersAreHeard}
use Rattle.law_microframes.specs.translators.Results.{ResultsAreTaken}
use Rattle.law_microframes.specs.visits.Belonging.{HeadsHaveFields}
use Rattle.law_microframes.proofs.lemmas.time.DataHeads.{mixed_worlds_read_data}
use Rattle.law_microframes.proofs.lemmas.visits.BelongQueues.{alive}
use Rattle.law_reports.specs.due_at_begin.Splits.{TextsTakeResults}
use Rattle.law_reports.specs.lines.Lined.{in_hand, Lines}
use Rattle.law_reports.specs.pipes.Declared.{Sides}
use Rattle.law_reports.specs.pipes.Piped.{Heads, IsPiped}
use Rattle.law_reports.proofs.lemmas.lines.IsoGoing.{told_apart}
use Rattle.law_reports.proofs.lemmas.pipes.Names.{name_is}
use Rattle.law_reports.proofs.lemmas.due_at_begin.Answered.{answer_stays, is_complete, reply_heard, result_taken}
use Rattle.law_reports.proofs.lemmas.due_at_begin.Asking.{BusGoes, is_quiet, is_asked, IsAskOfOther, same_way}
use Rattle.law_reports.proofs.lemmas.due_at_begin.HubSeats.{hubs_are_zero}
use Rattle.law_reports.proofs.lemmas.due_at_begin.LastDue.{last_answers_are_there}
use Rattle.law_reports.proofs.lemmas.due_at_begin.PipelinesLeft.{AreHubsZero}
use Rattle.law_reports.proofs.lemmas.due_at_begin.SplitDue.{waiting_head, largest, complete_due}
use Rattle.law_reports.proofs.lemmas.due_at_begin.SplitHeads.{IsHeadOf}
use Rattle.law_reports.proofs.lemmas.due_at_begin.SplitMoments.{IsDueOf}
use Rattle.law_reports.proofs.lemmas.due_at_begin.SplitRuns.{splits_are_made}
use Rattle.law_reports.proofs.lemmas.due_at_begin.SplitStages.{reply_to}
use Rattle.law_reports.proofs.lemmas.due_at_begin.SplitTurns.{IsAsDue, IsWaitingSplit, made_as_due}

-- ---- another endpoint is asked

numbered : (kind : EpKind) (name : EpName) → IsNameOf kind name → name.way ≢ ways.Ctl → name.num ≢ 0
numbered kinds.Control name k one = absurd (one k.way)
numbered kinds.Bulk name k one = λ none. let least = k.least in absurd (omega (arith, least, none))
numbered kinds.Interrupt name k one = λ none. let least = k.least in absurd (omega (arith, least, none))
numbered kinds.Iso name k one = λ none. let least = k.least in absurd (omega (arith, least, none))

in_dir : (pid : Pid) → token_kind pid ≡ tokens.In → direction_of pid ≡ dirs.In
in_dir pids.In is = refl
in_dir _ is = absurd cc

out_dir : (pid : Pid) → token_kind pid ≡ tokens.Out → direction_of pid ≡ dirs.Out
out_dir pids.In is = absurd cc
out_dir _ is = refl

way_of_token : (way : Way) (pid : Pid) (other : Way) → token_kind pid ≡ token_by other → other ≢ ways.Ctl → way ≢ ways.Ctl
    → is_same_direction (direction_of pid) (dir_of way) ≡ true → way ≡ other
way_of_token way pid other token one two same = by way pid other token one two same
  where
    by : (a : Way) (p : Pid) (b : Way) → token_kind p ≡ token_by b → b ≢ ways.Ctl → a ≢ ways.Ctl
        → is_same_direction (direction_of p) (dir_of a) ≡ true → a ≡ b
    by ways.Ctl p b token one two same = absurd (two refl)
    by a p ways.Ctl token one two same = absurd (one refl)
    by ways.In p ways.In token one two same = refl
    by ways.Out p ways.Out token one two same = refl
    by ways.In p ways.Out token one two same =
        absurd (false≢true (sym (ap (λ (d : Dir). is_same_direction d dirs.In) (out_dir p token)) ∙ same))
    by ways.Out p ways.In token one two same =
        absurd (false≢true (sym (ap (λ (d : Dir). is_same_direction d dirs.Out) (in_dir p token)) ∙ same))

module _ (fixed : Fixed) (zeroes : AreHubsZero fixed) (x : Sides) (s : Standing) (m : Lines) (h : Heads) (w : World)
    (k : IsPiped fixed x s m h w) (named : AreNamed w.driver) (e : ℕ) (z : Endpoint) (here : slice_get w.driver.endpoints e ≡ Some z)
    (kind : z.desc.kind ≡ Interrupt) (reply : Reply) where
  one_way : z.desc.name.way ≢ ways.Ctl
  one_way is = control_off (subst (λ (way : Way). IsOfWay way z.desc.kind) is (k.mixed.turns.kinds_fit e z here))
    where
      control_off : z.desc.kind ≡ kinds.Control → ⊥
      control_off other = let never : kinds.Interrupt ≡ kinds.Control = sym kind ∙ other in cc

  module _ (ask : Ask) (a : IsAskOfOther w.driver e ask) where
    apart_by : z.desc.name.addr ≡ a.endpoint.desc.name.addr → z.desc.name.num ≡ a.endpoint.desc.name.num
        → z.desc.name.way ≡ a.endpoint.desc.name.way → ⊥
    apart_by addr num way =
        a.other (told_apart w.driver (in_hand s) s.parts m.reported k.telling.told a.number e a.endpoint z a.here here
        (name_is a.endpoint.desc.name z.desc.name (sym addr) (sym num) (sym way)))

    pub other_key : is_same_key (key_of ask) (key_for z.desc) ≡ false
    other_key = by (is_same_key (key_of ask) (key_for z.desc)) refl
      where
        by : (b : Bool) → is_same_key (key_of ask) (key_for z.desc) ≡ b → is_same_key (key_of ask) (key_for z.desc) ≡ false
        by false is = is
        by true is =
            let one = and_parts (ask.addr == z.desc.name.addr && ask.ep == z.desc.name.num
            && is_same_direction (direction_of ask.pid) (dir_of z.desc.name.way)) (is_same_kind ask.kind z.desc.kind) is in
            let two = and_parts (ask.addr == z.desc.name.addr && ask.ep == z.desc.name.num)
            (is_same_direction (direction_of ask.pid) (dir_of z.desc.name.way)) one.0 in
            let three = and_parts (ask.addr == z.desc.name.addr) (ask.ep == z.desc.name.num) two.0 in
            absurd (apart_by (sym (eqb-true ask.addr z.desc.name.addr three.0) ∙ a.address)
            (sym (eqb-true ask.ep z.desc.name.num three.1) ∙ a.place)
            (way_of_token z.desc.name.way ask.pid a.endpoint.desc.name.way a.token a.one one_way two.1))

    other_place : (place : ℕ) (seat : Seat) → slice_get fixed.seats place ≡ Some seat → seat.name ≡ z.desc.name
        → place_for fixed.seats ask.addr ask.ep (token_kind ask.pid) ≢ Some place
    other_place place seat there its found =
        let suited = position_passes (λ (v : Seat). suits v.name ask.addr ask.ep (token_kind ask.pid)) fixed.seats place seat found there in
        let p = and_parts (seat.name.addr == ask.addr) _ suited in
        let q = and_parts (seat.name.num == ask.ep) _ p.1 in
        apart_by
        (ap (λ (n : EpName). n.addr) (sym its) ∙ eqb-true seat.name.addr ask.addr p.0 ∙ a.address)
        (ap (λ (n : EpName). n.num) (sym its) ∙ eqb-true seat.name.num ask.ep q.0 ∙ a.place)
        (same_way z.desc.name.way a.endpoint.desc.name.way one_way a.one
        (ap (λ (t : TokenKind). takes_token z.desc.name.way t) (sym a.token)
        ∙ ap (λ (n : EpName). takes_token n.way (token_kind ask.pid)) (sym its) ∙ q.1))

    number : ask.ep ≢ 0
    number none = numbered a.endpoint.desc.kind a.endpoint.desc.name (named a.number a.endpoint a.here) a.one (sym a.place ∙ none)

  pub answer_beside : (c : Bus) → BusGoes fixed w e c → HasAnswer fixed w.bus z.desc reply → HasAnswer fixed c z.desc reply
  answer_beside c (is_quiet bus) had = subst (λ (b : Bus). HasAnswer fixed b z.desc reply) (sym bus) had
  answer_beside c (is_asked ask out other bus) had =
      subst (λ (b : Bus). HasAnswer fixed b z.desc reply) (sym bus)
      (answer_stays fixed w.bus ask out z.desc reply had (other_key ask other) zeroes (number ask other)
      (other_place ask other had.heard.place had.heard.seat had.heard.seated had.heard.named))

-- ---- what is due

module _ (fixed : Fixed) (b : World) (k : IsMixedWorld b) (heads : HeadsHaveFields b.driver b.memory)
    (sends : QueuesSendData b.driver b.memory) (e q : ℕ) (d : IsAnswerDue fixed b e q) where
  abbrev z : Endpoint
  z = d.complete.split.there.endpoint

  abbrev desc : EpDesc
  desc = d.complete.split.there.endpoint.desc

  abbrev v : Qh
  v = d.complete.split.queue

  abbrev Has : Bus → Type 0
  Has c = HasAnswer fixed c d.complete.split.there.endpoint.desc d.reply

  one_way_of : d.complete.split.there.endpoint.desc.name.way ≢ ways.Ctl
  one_way_of is = control_off (subst (λ (way : Way). IsOfWay way z.desc.kind) is (k.mixed.turns.kinds_fit e z d.complete.split.there.here))
    where
      control_off : z.desc.kind ≡ kinds.Control → ⊥
      control_off other = let never : kinds.Interrupt ≡ kinds.Control = sym d.complete.split.there.kind ∙ other in cc

  wait : IsWaitingSplit d.complete.split.queue
  wait = waiting_head fixed b k heads e q d.complete Has (λ m. Unit {0}) d.has

  pid_is : d.complete.split.queue.token.pid ≡ pid_of (dir_of d.complete.split.there.endpoint.desc.name.way)
  pid_is =
      let i = d.complete.split.there in
      (mixed_worlds_read_data b k sends).heads e i.endpoint v i.here i.kind
      (alive b.driver k.mixed.now.framed.place.sound.owners e i.endpoint i.here i.chained)
      (ap (λ (n : ℕ). queue_head_at_address b.memory (32 * n)) i.queue ∙ d.complete.split.read) wait.work.active

  module _ (u : Qh) (same : IsAsDue d.complete.split.queue u) (its : IsHeadOf d.complete.split.there.endpoint.desc u) (c : Bus)
      (hears : IsHeardOn fixed c d.complete.split.there.endpoint.desc) (has : Has c) (out : List ℕ) (last : Bool) where
    low : (u.eps == 2) ≡ false
    low = ap (λ (n : ℕ). n == 2) same.eps ∙ wait.low

    split : u.token.split_state ≡ true
    split = ap (λ (t : Token). t.split_state) same.token ∙ wait.split

    pid : u.token.pid ≡ pid_of (dir_of d.complete.split.there.endpoint.desc.name.way)
    pid = ap (λ (t : Token). t.pid) same.token ∙ pid_is

    abbrev reply_in : Transaction → Reply
    reply_in t = reply_of fixed c (call_in t out last).ask (call_in t out last).out

    pub heard : reply_to fixed c u out last ≡ d.reply
    heard =
        ap reply_in (is_complete u low split)
        ∙ reply_heard fixed c d.complete.split.there.endpoint.desc d.reply has hears d.complete.split.there.kind one_way_of u its pid out
        last

  answer_due : IsDueOf fixed b e q d.complete.split.there.endpoint.desc Has (IsAnswered (32 * q) d.reply)
  answer_due =
      complete_due fixed b k heads e q d.complete Has (IsAnswered (32 * q) d.reply) d.has
      (λ u same its c hears has out last is. record { at = refl; heard = heard u same its c hears has out last })

module _ (fixed : Fixed) (b : World) (k : IsMixedWorld b) (heads : HeadsHaveFields b.driver b.memory)
    (sends : QueuesSendData b.driver b.memory) (e q : ℕ) (d : IsResultDue fixed b e q) where
  abbrev HasIt : Bus → Type 0
  HasIt c = HasAnswer fixed c d.due.complete.split.there.endpoint.desc d.due.reply

  abbrev Taken : QueueMade → Type 0
  Taken m = IsTaken d.due.complete.split.queue (32 * q) d.bytes m

  result_due : IsDueOf fixed b e q d.due.complete.split.there.endpoint.desc HasIt Taken
  result_due =
      complete_due fixed b k heads e q d.due.complete HasIt Taken d.due.has
      (λ u same its c hears has out last is.
      subst (λ (r : Reply). Taken (made_as_due b.control.frame.index (32 * q) u out last r))
      (sym (heard fixed b k heads sends e q d.due u same its c hears has out last))
      (result_taken b.control.frame.index (32 * q) d.due.complete.split.queue u out last d.due.reply
      d.due.complete.split.there.endpoint.desc.name.way d.bytes
      (low fixed b k heads sends e q d.due u same its c hears has out last)
      (split fixed b k heads sends e q d.due u same its c hears has out last) same.token
      (its.max ∙ sym (largest fixed b k heads e q d.due.complete HasIt Taken d.due.has))
      (ap pid_at (pid fixed b k heads sends e q d.due u same its c hears has out last)) d.moves))

-- ---- the law

pub answers_are_heard : (text : List ℕ) (s : Script) → Spells text s → AnswersAreHeard s
answers_are_heard text s spelled k e q past few d off =
    splits_are_made text s spelled (IsAnswerDue (fixed_of s)) (λ b x y due. due.complete.split.there.endpoint.desc)
    (λ b x y due c. HasAnswer (fixed_of s) c due.complete.split.there.endpoint.desc due.reply) (λ b x y due. IsAnswered (32 * y) due.reply)
    (λ b mixed heads sends x y due. answer_due (fixed_of s) b mixed heads sends x y due)
    (λ sides at lines hs w piped named b x y due z here kind same c goes had.
    subst (λ (u : EpDesc). HasAnswer (fixed_of s) c u due.reply) same
    (answer_beside (fixed_of s) (hubs_are_zero s) sides at lines hs w piped named x z here kind due.reply c goes
    (subst (λ (u : EpDesc). HasAnswer (fixed_of s) w.bus u due.reply) (sym same) had)))
    (λ x y due. cc due.complete.split.there.here) k e q past few d off

pub results_are_taken : (text : List ℕ) (s : Script) → Spells text s → ResultsAreTaken s
results_are_taken text s spelled k e q past few d off =
    splits_are_made text s spelled (IsResultDue (fixed_of s)) (λ b x y due. due.due.complete.split.there.endpoint.desc)
    (λ b x y due c. HasAnswer (fixed_of s) c due.due.complete.split.there.endpoint.desc due.due.reply)
    (λ b x y due. IsTaken due.due.complete.split.queue (32 * y) due.bytes)
    (λ b mixed heads sends x y due. result_due (fixed_of s) b mixed heads sends x y due)
    (λ sides at lines hs w piped named b x y due z here kind same c goes had.
    subst (λ (u : EpDesc). HasAnswer (fixed_of s) c u due.due.reply) same
    (answer_beside (fixed_of s) (hubs_are_zero s) sides at lines hs w piped named x z here kind due.due.reply c goes
    (subst (λ (u : EpDesc). HasAnswer (fixed_of s) w.bus u due.due.reply) (sym same) had)))
    (λ x y due. cc due.due.complete.split.there.here) k e q past few d off

pub texts_take_results : TextsTakeResults
texts_take_results = λ text s spelled. record {
  answers = answers_are_heard text s spelled;
  results = results_are_taken text s spelled;
  last = last_answers_are_there text s spelled (answers_are_heard text s spelled);
}
