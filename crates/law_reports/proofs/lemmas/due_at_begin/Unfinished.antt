-- What an unfinished transfer's queue head comes to is work, so a transaction of it is due (EHCI 1.0, 3.5, 3.6 and 4.10.2).
use Rattle.std.proofs.Common.{◌≡◌, ℕ, ◌*◌, false, ap, refl, sym, ◌∙◌}
use Rattle.std.proofs.lemmas.Bool.{true≢false}
use Rattle.std.proofs.lemmas.Option.{same_Some}
use Rattle.word_mem.specs.Memory.{Mem}
use Rattle.link_words.specs.declared.kinds.QtdLink.{QtdLink}
use Rattle.link_words.specs.declared.kinds.QtdLink.TheVariants.{To}
use Rattle.qh_qtd.specs.declared.queue_head.Qh.{Qh}
use Rattle.mem_queues.specs.Structures.{queue_head_at_address, qtd_at_address}
use Rattle.hc_copy.specs.Overlay.{advanced}
use Rattle.drv_table.specs.Kinds.{is_iso}
use Rattle.drv_table.specs.Words.{is_control}
use Rattle.bus_wire.specs.Bus.{Fixed, fixed_of}
use Rattle.bus_world.specs.Budgets.{moment}
use Rattle.bus_world.specs.World.{World}
use Rattle.claims_world.specs.Due.{ComesTo, takes}
use Rattle.claims_world.specs.Due as due
use Rattle.claims_world.specs.DueAtBegin.{IsDueAtBegin}
use Rattle.claims_world.specs.Unfinished.{GoesOnToWork, works, goes_on, ComesToWork}
use Rattle.law_reports.specs.due_at_begin.Unfinished.{HasUnfinished, TextsHaveUnfinishedDue}
use Rattle.law_reports.proofs.lemmas.due_at_begin.BegunMoments.{so_as_begun}
use Rattle.law_reports.proofs.lemmas.queues.Copies.{texts_keep_to_work}

-- what it works on next
record HasNext (m : Mem) (q : Qh) : Type 0 where
  work : Qh
  next : ComesTo m q work

has_next : (m : Mem) (q : Qh) → q.token.halted ≡ false → GoesOnToWork m q → HasNext m q
has_next m q unhalted (works active) = record { work = q; next = due.goes_on (record { active = active; unhalted = unhalted }) }
has_next m q unhalted (goes_on a t off link read active ready) =
    record { work = _; next = takes a t off unhalted link read (record { active = active; unhalted = ready }) }

-- .. and that alone
to_one : (a b : ℕ) → ◌≡◌ {A = QtdLink} (To a) (To b) → a ≡ b
to_one a b same = cc

pub comes_to_one : (m : Mem) (q v u : Qh) → ComesTo m q v → ComesTo m q u → v ≡ u
comes_to_one m q _ _ (due.goes_on one) (due.goes_on two) = refl
comes_to_one m q _ _ (due.goes_on one) (takes b y off unhalted link read ready) = absurd (true≢false (sym one.active ∙ off))
comes_to_one m q _ _ (takes a x off unhalted link read ready) (due.goes_on two) = absurd (true≢false (sym two.active ∙ off))
comes_to_one m q _ _ (takes a x off unhalted link read ready) (takes b y off_too unhalted_too link_too read_too ready_too) =
    let at : a ≡ b = to_one a b (sym link ∙ link_too) in
    let same : x ≡ y = same_Some x y (sym read ∙ ap (qtd_at_address m) at ∙ read_too) in
    ap (λ (i : ℕ). advanced q i x) at ∙ ap (advanced q b) same

module _ (fixed : Fixed) (w : World) (e q : ℕ) (h : HasUnfinished fixed w e q) (work : ComesToWork w) where
  comes : HasNext w.memory h.queue
  comes =
      has_next w.memory h.queue h.unhalted
      (work e h.there.endpoint h.queue h.there.here (ap is_iso h.there.kind) (ap is_control h.there.kind) h.goes_on
      (ap (λ (b : ℕ). queue_head_at_address w.memory (32 * b)) h.there.queue ∙ h.read) h.unhalted h.unfinished)

  unfinished_is_due : IsDueAtBegin fixed w e q
  unfinished_is_due = record {
    due = record {
      placement = h.placement;
      there = h.there;
      high = h.high;
      bit = h.bit;
      free = h.free;
      transfer = record {
        queue = h.queue;
        read = h.read;
        works = comes.work;
        next = comes.next;
        ready = h.ready comes.work comes.next;
      };
    };
    active = h.active;
  }

pub texts_have_unfinished_due : TextsHaveUnfinishedDue
texts_have_unfinished_due text s spelled =
    so_as_begun (λ (w : World). (e q : ℕ) → HasUnfinished (fixed_of s) w e q → IsDueAtBegin (fixed_of s) w e q) s
    (λ e q h. let none = h.there.here in absurd cc)
    (λ k e q h. unfinished_is_due (fixed_of s) (moment s k).world e q h ((texts_keep_to_work text s spelled).queues k))
