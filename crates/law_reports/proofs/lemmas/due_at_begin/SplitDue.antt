-- What is due of an interrupt endpoint below a hub as its microframe begins comes in it, and is done (EHCI 1.0, 4.10 and 4.12.2.4).
use Rattle.std.proofs.Common.{◌≡◌, ℕ, ◌+◌, ◌*◌, Bool, true, false, List, ap, refl, sym, subst, ◌∙◌}
use Rattle.std.specs.Prelude.{◌==◌}
use Rattle.std.proofs.lemmas.Bool.{false≢true}
use Rattle.usb_base.specs.declared.packets.Speed.{Speed}
use Rattle.usb_base.specs.declared.packets.Speed.TheVariants as speeds
use Rattle.script_types.specs.declared.scripts.Script.{Script}
use Rattle.script_text.specs.Faults.{Spells}
use Rattle.word_mem.specs.Memory.{Mem, word_at}
use Rattle.qh_qtd.specs.declared.queue_head.Qh.{Qh}
use Rattle.qh_qtd.specs.declared.token.Token.{Token}
use Rattle.bandwidth.specs.Placements.{is_classic}
use Rattle.drv_table.specs.Words.{speed_field}
use Rattle.hc_copy.specs.Overlay.{advanced}
use Rattle.hc_copy.specs.Planning.{queue_pipe, host_in, split_at, transaction_at}
use Rattle.hc_copy.specs.Transacting.{outcome_in}
use Rattle.toggle_error.specs.declared.host.Outcome.TheVariants.{Wait}
use Rattle.usb_base.specs.declared.packets.EpKind.TheVariants.{Interrupt}
use Rattle.usb_base.specs.declared.packets.Reply.{Reply}
use Rattle.hc_masks.specs.Masks.{has, is_last, with_bit}
use Rattle.hc_interrupt.specs.Turns.{microframe_of, planned, is_last_of}
use Rattle.bus_wire.specs.Bus.{Bus, Fixed, fixed_of}
use Rattle.bus_world.specs.World.{World}
use Rattle.claims_world.specs.Due.{IsActiveToken, ComesTo, goes_on, takes}
use Rattle.claims_world.specs.QueuesMade.{QueueMade}
use Rattle.claims_world.specs.SplitsAtBegin.{IsSplitAtBegin, IsStartDue, IsStarted, IsCompleteDue, IsCompleted, StartsAreMade, CompletesAreMade}
use Rattle.law_world.specs.memory.Mixed.{IsMixedWorld}
use Rattle.law_microframes.specs.due.repeats.Hearing.{IsHeardOn}
use Rattle.law_microframes.specs.visits.Belonging.{HaveFields, HeadsHaveFields}
use Rattle.law_microframes.proofs.lemmas.visits.BelongReads.{HasReadFields, read_fields}
use Rattle.law_reports.specs.due_at_begin.Splits.{TextsMakeSplits}
use Rattle.claims_world.specs.SplitFrames.{IsAsFar}
use Rattle.law_reports.proofs.lemmas.due_at_begin.Aside.{its_words}
use Rattle.law_reports.proofs.lemmas.due_at_begin.SplitHeads.{IsHeadOf, not_high}
use Rattle.law_reports.proofs.lemmas.due_at_begin.SplitStages.{reply_to}
use Rattle.law_reports.proofs.lemmas.due_at_begin.SplitTurns.{IsAsDue, itself_as_due, waits_same, missed_same, made_as_due}
use Rattle.law_reports.proofs.lemmas.due_at_begin.SplitTurns.{IsWaitingSplit, waiting_split, start_comes}
use Rattle.law_reports.proofs.lemmas.due_at_begin.SplitTurns.{left_as, as_far_as, far_as_due, start_far}
use Rattle.law_reports.proofs.lemmas.due_at_begin.SplitTurns.{complete_comes, start_made, complete_made}
use Rattle.law_reports.proofs.lemmas.due_at_begin.SplitMoments.{IsDueOf}
use Rattle.law_reports.proofs.lemmas.due_at_begin.SplitRuns.{splits_are_made}

-- ---- what is due comes so

low_speed : (x : Speed) → is_classic x ≡ true → (speed_field x == 2) ≡ false
low_speed speeds.High is = absurd (false≢true is)
low_speed speeds.Full is = refl
low_speed speeds.Low is = refl

-- nothing has to hold of the bus
abbrev pub Anything : Bus → Type 0
Anything b = Unit {0}

-- what it comes to has the queue head's masks
pub record HasComeTo (q v : Qh) : Type 0 where
  pub eps : v.eps ≡ q.eps
  pub longest : v.max ≡ q.max
  pub smask : v.smask ≡ q.smask
  pub work : IsActiveToken v.token

pub has_come_to : (m : Mem) (q v : Qh) → ComesTo m q v → HasComeTo q v
unfolding advanced
has_come_to m q _ (goes_on work) = record { eps = refl; longest = refl; smask = refl; work = work }
has_come_to m q _ (takes a t idle unhalted leads here work) = record {
  eps = refl;
  longest = refl;
  smask = refl;
  work = record { active = work.active; unhalted = work.unhalted };
}

-- .. and left the queue head as far as v
pub record IsStartedWaiting (v : Qh) (n f : ℕ) (m : QueueMade) : Type 0 where
  pub started : IsStarted n f m
  pub wait : m.outcome ≡ Wait
  pub far : IsAsFar v m.queue

-- its start-split comes next
pub record IsUnsplit (q : Qh) : Type 0 where
  pub low : (q.eps == 2) ≡ false
  pub unsplit : q.token.split_state ≡ false

start_waits : (q : Qh) (out : List ℕ) (last : Bool) (reply : Reply) → (q.eps == 2) ≡ false → q.token.split_state ≡ false
    → outcome_in (planned q) out last reply ≡ Wait
start_waits q out last reply low unsplit =
    ap (λ (b : Bool). outcome_in (transaction_at (split_at b q.token.split_state (queue_pipe Interrupt q)) (queue_pipe Interrupt q)
    (host_in q)) out last reply) low
    ∙ ap (λ (b : Bool). outcome_in (transaction_at (split_at false b (queue_pipe Interrupt q)) (queue_pipe Interrupt q) (host_in q)) out
    last reply) unsplit

module _ (fixed : Fixed) (b : World) (k : IsMixedWorld b) (heads : HeadsHaveFields b.driver b.memory) (e q : ℕ) where
  module _ (d : IsSplitAtBegin fixed b e q) where
    fields : HaveFields (word_at b.memory (32 * q + 4)) (word_at b.memory (32 * q + 8)) d.there.endpoint.desc d.placement
    fields = its_words b k heads e q d.placement d.there

    read : HasReadFields (word_at b.memory (32 * q + 4)) (word_at b.memory (32 * q + 8)) d.queue
    read = read_fields b.memory (32 * q) d.queue d.read

    low : (d.queue.eps == 2) ≡ false
    low = ap (λ (n : ℕ). n == 2) (read.eps ∙ fields.speed) ∙ low_speed d.there.endpoint.desc.speed d.classic

    in_smask : (u : ℕ) → has d.placement.smask u ≡ true → has d.queue.smask u ≡ true
    in_smask u bit = subst (λ (mask : ℕ). has mask u ≡ true) (sym (read.smask ∙ fields.smask)) bit

    in_cmask : (u : ℕ) → has d.placement.cmask u ≡ true → has d.queue.cmask u ≡ true
    in_cmask u bit = subst (λ (mask : ℕ). has mask u ≡ true) (sym (read.cmask ∙ fields.cmask)) bit

  start_due : (d : IsStartDue fixed b e q)
      → IsDueOf fixed b e q d.split.there.endpoint.desc Anything (IsStarted (32 * q) b.control.frame.index)
  start_due d =
      let x : IsSplitAtBegin fixed b e q = d.split in
      let u : ℕ = microframe_of b.control.frame.index in
      let c : HasComeTo x.queue d.works = has_come_to b.memory x.queue d.works d.next in
      record {
        placement = x.placement;
        there = x.there;
        desc = refl;
        low = not_high x.there.endpoint.desc.speed x.classic;
        active = x.active;
        free = x.free;
        queue = d.works;
        overlay = x.queue.token.active;
        work = record {
          queue = x.queue;
          read = x.read;
          works = d.works;
          next = d.next;
          due = itself_as_due d.works;
          overlay = refl;
        };
        bit = λ off. d.bit;
        due = record {
          work = c.work;
          turn = start_comes b.control.frame.index d.works d.unsplit c.work
              (ap (λ (mask : ℕ). has mask u) c.smask ∙ in_smask x u d.bit);
          leaves = λ z same head on hears any out last is.
              start_made b.control.frame.index (32 * q) z out last (reply_to fixed on z out last)
              (ap (λ (n : ℕ). n == 2) (same.eps ∙ c.eps) ∙ low x)
              (ap (λ (t : Token). t.split_state) same.token ∙ d.unsplit)
              (record {
                active = ap (λ (t : Token). t.active) same.token ∙ c.work.active;
                unhalted = ap (λ (t : Token). t.halted) same.token ∙ c.work.unhalted;
              });
        };
        bus = tt;
      }

  -- .. and comes to nothing but to wait
  pub start_waits_due : (d : IsStartDue fixed b e q)
      → IsDueOf fixed b e q d.split.there.endpoint.desc Anything (IsStartedWaiting d.works (32 * q) b.control.frame.index)
  unfolding start_due
  start_waits_due d =
      let c : HasComeTo d.split.queue d.works = has_come_to b.memory d.split.queue d.works d.next in
      let n = start_due d in
      record {
        placement = n.placement;
        there = n.there;
        desc = n.desc;
        low = n.low;
        active = n.active;
        free = n.free;
        queue = n.queue;
        overlay = n.overlay;
        work = n.work;
        bit = n.bit;
        due = record {
          work = n.due.work;
          turn = n.due.turn;
          leaves = λ z same head on hears any out last is. record {
            started = n.due.leaves z same head on hears any out last is;
            wait = start_waits z out last (reply_to fixed on z out last) (ap (λ (i : ℕ). i == 2) (same.eps ∙ c.eps) ∙ low d.split)
                (ap (λ (t : Token). t.split_state) same.token ∙ d.unsplit);
            far = as_far_as d.works z (left_as b.control.frame.index z out last (reply_to fixed on z out last)) (far_as_due d.works z same)
                (start_far b.control.frame.index (32 * q) z out last (reply_to fixed on z out last)
                (ap (λ (i : ℕ). i == 2) (same.eps ∙ c.eps) ∙ low d.split) (ap (λ (t : Token). t.split_state) same.token ∙ d.unsplit));
          };
        };
        bus = tt;
      }

  -- .. where B holds of the bus
  pub start_on : (d : IsStartDue fixed b e q) (B : Bus → Type 0) → B b.bus
      → (i : IsDueOf fixed b e q d.split.there.endpoint.desc B (IsStartedWaiting d.works (32 * q) b.control.frame.index))
      × IsUnsplit i.queue
  unfolding start_due start_waits_due
  start_on d B bus =
      let c : HasComeTo d.split.queue d.works = has_come_to b.memory d.split.queue d.works d.next in
      let n = start_waits_due d in (
        record {
          placement = n.placement;
          there = n.there;
          desc = n.desc;
          low = n.low;
          active = n.active;
          free = n.free;
          queue = n.queue;
          overlay = n.overlay;
          work = n.work;
          bit = n.bit;
          due = record {
            work = n.due.work;
            turn = n.due.turn;
            leaves = λ z same head on hears has out last is. n.due.leaves z same head on hears tt out last is;
          };
          bus = bus;
        },
        record { low = ap (λ (i : ℕ). i == 2) c.eps ∙ low d.split; unsplit = d.unsplit },
      )

  -- a complete-split, where B holds of the bus, and P then of what it leaves
  module _ (d : IsCompleteDue fixed b e q) (B : Bus → Type 0) (P : QueueMade → Type 0) (bus : B b.bus) where
    abbrev f : ℕ
    f = b.control.frame.index

    pub waiting_head : IsWaitingSplit d.split.queue
    waiting_head = waiting_split d.split.queue d.waiting

    pub largest : d.split.queue.max ≡ d.split.there.endpoint.desc.max
    largest = (read d.split).longest ∙ (fields d.split).longest

    abbrev pub Leaves : Type 0
    Leaves =
        (z : Qh) → IsAsDue d.split.queue z → IsHeadOf d.split.there.endpoint.desc z → (c : Bus)
        → IsHeardOn fixed c d.split.there.endpoint.desc → B c → (out : List ℕ) (last : Bool) → last ≡ is_last_of b.control.frame.index z
        → P (made_as_due b.control.frame.index (32 * q) z out last (reply_to fixed c z out last))

    pub complete_due : Leaves → IsDueOf fixed b e q d.split.there.endpoint.desc B P
    complete_due leaves =
        let x : IsSplitAtBegin fixed b e q = d.split in
        let v : Qh = x.queue in
        record {
          placement = x.placement;
          there = x.there;
          desc = refl;
          low = not_high x.there.endpoint.desc.speed x.classic;
          active = x.active;
          free = x.free;
          queue = v;
          overlay = v.token.active;
          work = record {
            queue = v;
            read = x.read;
            works = v;
            next = goes_on waiting_head.work;
            due = itself_as_due v;
            overlay = refl;
          };
          bit = λ off. absurd (false≢true (sym off ∙ waiting_head.work.active));
          due = record {
            work = waiting_head.work;
            turn = complete_comes f v d.waiting d.unmissed (in_cmask x (microframe_of f) d.bit);
            leaves = leaves;
          };
          bus = bus;
        }

  pub complete_leaves : (d : IsCompleteDue fixed b e q)
      → Leaves d Anything (IsCompleted d.split.queue (32 * q) b.control.frame.index) tt
  complete_leaves d z same head c hears any out last is =
      let f : ℕ = b.control.frame.index in
      let u : ℕ = microframe_of b.control.frame.index in
      let v : Qh = d.split.queue in
      let wait : IsWaitingSplit d.split.queue = waiting_split d.split.queue d.waiting in
      let m : IsCompleted z (32 * q) f (made_as_due f (32 * q) z out last (reply_to fixed c z out last)) =
      complete_made f (32 * q) z out last (reply_to fixed c z out last) (ap (λ (n : ℕ). n == 2) same.eps ∙ wait.low)
      (waits_same v z same ∙ d.waiting) (missed_same f v z same ∙ d.unmissed) is in
      record {
        at = m.at;
        progress = m.progress ∙ ap (λ (n : ℕ). with_bit n u) same.progress;
        frame = m.frame;
        goes_on = λ nyet more. m.goes_on nyet (ap (λ (mask : ℕ). is_last mask u) same.cmask ∙ more);
      }

  made_due : (d : IsCompleteDue fixed b e q)
      → IsDueOf fixed b e q d.split.there.endpoint.desc Anything (IsCompleted d.split.queue (32 * q) b.control.frame.index)
  made_due d =
      complete_due d Anything (IsCompleted d.split.queue (32 * q) b.control.frame.index) tt (complete_leaves d)

-- ---- the law

starts_are_made : (text : List ℕ) (s : Script) → Spells text s → StartsAreMade s
starts_are_made text s spelled k e q past few d off =
    splits_are_made text s spelled (IsStartDue (fixed_of s)) (λ b x y due. due.split.there.endpoint.desc) (λ b x y due. Anything)
    (λ b x y due. IsStarted (32 * y) b.control.frame.index)
    (λ b mixed heads sends x y due. start_due (fixed_of s) b mixed heads x y due)
    (λ sides at lines hs w piped named b x y due z here kind same c goes had. tt) (λ x y due. cc due.split.there.here) k e q past few d off

completes_are_made : (text : List ℕ) (s : Script) → Spells text s → CompletesAreMade s
completes_are_made text s spelled k e q past few d off =
    splits_are_made text s spelled (IsCompleteDue (fixed_of s)) (λ b x y due. due.split.there.endpoint.desc) (λ b x y due. Anything)
    (λ b x y due. IsCompleted due.split.queue (32 * y) b.control.frame.index)
    (λ b mixed heads sends x y due. made_due (fixed_of s) b mixed heads x y due)
    (λ sides at lines hs w piped named b x y due z here kind same c goes had. tt) (λ x y due. cc due.split.there.here) k e q past few d off

pub texts_make_splits : TextsMakeSplits
texts_make_splits = λ text s spelled. record {
  starts = starts_are_made text s spelled;
  completes = completes_are_made text s spelled;
}
