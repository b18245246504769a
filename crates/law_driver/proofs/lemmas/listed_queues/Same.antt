-- Where the queue heads of the list, the endpoints and the room stay, so does all that is said of them.
use Rattle.std.proofs.Common.{◌≡◌, ℕ, suc, ◌+◌, ◌≤◌, Bool, true, false, cond, List, [], ◌∷◌, ◌++◌, length, set, slice_get, Option, Some, None, option_map, ap, sym, subst, ◌∙◌, ⊎_elim, refl, arith}
use Rattle.std.proofs.lemmas.Bool.{false≢true, cases_eq}
use Rattle.std.proofs.lemmas.List.{length-set}
use Rattle.std.proofs.lemmas.Option.{same_Some}
use Rattle.law_common.proofs.Lists.{set_here, set_there}
use Rattle.bandwidth.specs.declared.placements.Placement.{Placement}
use Rattle.drv_chains.specs.declared.members.QueueHead.{QueueHead as Queue}
use Rattle.drv_members.specs.Members.{Members}
use Rattle.drv_periodic_table.specs.Periodic.{PeriodicContent}
use Rattle.drv_periodic_table.specs.declared.content.Removed.TheVariants as removed
use Rattle.drv_table.specs.declared.content.Endpoint.{Endpoint}
use Rattle.drv_table.specs.declared.content.Reserve.{Reserve}
use Rattle.drv_table.specs.declared.content.Command.TheVariants as unfinished
use Rattle.drv_table.specs.DriverContent.{DriverContent}
use Rattle.drv_table.specs.Commands.{no_command, removal_of, leave_frames}
use Rattle.claims_driver.specs.FrameListMembers.{Framed, framed_of, framed_in, is_chained}
use Rattle.law_driver.specs.listed_queues.Queues.{is_in_queues, HasQueues}
use Rattle.law_driver.proofs.lemmas.listed_members.Calm.{is_calm, IsQuiet}

pub record SameQueues (d e : DriverContent) : Type 0 where
  pub queues : e.periodic.list.members.schedule.queues ≡ d.periodic.list.members.schedule.queues
  pub most : e.periodic.list.members.queue_room ≡ d.periodic.list.members.queue_room
  pub framed : (i : ℕ) → framed_in e.endpoints i ≡ framed_in d.endpoints i
  pub many : length e.endpoints ≡ length d.endpoints
  pub room : e.room.endpoints ≡ d.room.endpoints
  pub goes : (i : ℕ) → e.command ≡ Some (unfinished.Unchain i) → d.command ≡ Some (unfinished.Unchain i)

pub same_queues : (d e : DriverContent) → SameQueues d e → HasQueues d → HasQueues e
same_queues d e same old = record {
  each = λ i x p here on queued placed. subst (λ (qs : List Queue). is_in_queues (record e.periodic.list.members.schedule { queues = qs }) x p ≡ true) (sym same.queues) (old.each i x p (sym (same.framed i) ∙ here) on queued placed);
  many = let n = ap (λ (qs : List Queue). length qs) same.queues in omega (arith, n, same.many, old.many);
  room = omega (arith, same.many, same.room, same.most, old.room);
  leaving = λ i is. ap is_chained (same.framed i) ∙ old.leaving i (same.goes i is);
}

pub same_all : (d : DriverContent) → SameQueues d d
same_all d = record { queues = refl; most = refl; framed = λ i. refl; many = refl; room = refl; goes = λ i is. is }

pub both_same : (d e f : DriverContent) → SameQueues d e → SameQueues e f → SameQueues d f
both_same d e f one two = record {
  queues = two.queues ∙ one.queues;
  most = two.most ∙ one.most;
  framed = λ i. two.framed i ∙ one.framed i;
  many = two.many ∙ one.many;
  room = two.room ∙ one.room;
  goes = λ i is. one.goes i (two.goes i is);
}

-- as many, where each tells the same
as_many : (xs ys : List Endpoint) → ((i : ℕ) → framed_in ys i ≡ framed_in xs i) → length ys ≡ length xs
as_many [] [] same = refl
as_many [] (y ∷ ys) same = let e : Some (framed_of y) ≡ None = same 0 in absurd (cc)
as_many (x ∷ xs) [] same = let e : None ≡ Some (framed_of x) = same 0 in absurd (cc)
as_many (x ∷ xs) (y ∷ ys) same = ap suc (as_many xs ys (λ i. same (suc i)))

pub quiet_same : (d e : DriverContent) → IsQuiet d e → is_calm d.command ≡ true → SameQueues d e
quiet_same d e q calm = record {
  queues = ap (λ (c : PeriodicContent). c.list.members.schedule.queues) q.periodic;
  most = ap (λ (c : PeriodicContent). c.list.members.queue_room) q.periodic;
  framed = q.endpoints.framed;
  many = as_many d.endpoints e.endpoints q.endpoints.framed;
  room = ap (λ (r : Reserve). r.endpoints) q.room;
  goes = λ i is. absurd (false≢true (ap is_calm (sym is) ∙ q.calm calm));
}

-- by what is written of an event that leaves the members
pub same_by : (d e : DriverContent) → e.periodic.list.members ≡ d.periodic.list.members → ((i : ℕ) → framed_in e.endpoints i ≡ framed_in d.endpoints i) → e.room.endpoints ≡ d.room.endpoints → ((i : ℕ) → e.command ≡ Some (unfinished.Unchain i) → d.command ≡ Some (unfinished.Unchain i)) → SameQueues d e
same_by d e members framed room goes = record {
  queues = ap (λ (m : Members). m.schedule.queues) members;
  most = ap (λ (m : Members). m.queue_room) members;
  framed = framed;
  many = as_many d.endpoints e.endpoints framed;
  room = room;
  goes = goes;
}

-- ---- an endpoint leaves its frames

-- all but one of the endpoints have their queue heads
pub record HasOthers (d : DriverContent) (k : ℕ) : Type 0 where
  pub each :
      (e : ℕ) (x : Framed) (p : Placement) → (e ≡ k → ⊥) → framed_in d.endpoints e ≡ Some x → x.chained ≡ true → x.isochronous ≡ false → x.placement ≡ Some p
      → is_in_queues d.periodic.list.members.schedule x p ≡ true
  pub many : length d.periodic.list.members.schedule.queues ≤ length d.endpoints
  pub room : length d.endpoints + d.room.endpoints ≤ d.periodic.list.members.queue_room

pub others : (d : DriverContent) (k : ℕ) → HasQueues d → HasOthers d k
others d k old = record { each = λ e x p differs here on queued placed. old.each e x p here on queued placed; many = old.many; room = old.room }

pub left_queues : (d : DriverContent) (k : ℕ) (z : Endpoint) → slice_get d.endpoints k ≡ Some z → HasOthers d k → HasQueues (leave_frames (no_command d) k (slice_get d.endpoints k))
left_queues d k z here old = subst (λ (o : Option Endpoint). HasQueues (leave_frames (no_command d) k o)) (sym here) (by z.chained refl)
  where
    y : Endpoint
    y = record z { chained = false }

    f : DriverContent
    f = record (no_command d) { endpoints = set d.endpoints k y; periodic = record d.periodic { removals = d.periodic.removals ++ removal_of (removed.Endpoint k) ∷ [] } }

    now : HasQueues f
    now = record {
      each = λ e x p there on queued placed.
          ⊎_elim
          (λ (same : e ≡ k).
          let one : framed_of y ≡ x = same_Some (framed_of y) x (sym (ap (λ i. option_map framed_of (slice_get (set d.endpoints k y) i)) same ∙ ap (option_map framed_of) (set_here d.endpoints k z y here)) ∙ there) in
          absurd (false≢true (ap (λ (w : Framed). w.chained) one ∙ on)))
          (λ (differs : e ≡ k → ⊥). old.each e x p differs (sym (ap (option_map framed_of) (set_there d.endpoints k e y differs)) ∙ there) on queued placed) (cases_eq e k);
      many = let n = length-set d.endpoints k y in omega (arith, n, old.many);
      room = let n = length-set d.endpoints k y in omega (arith, n, old.room);
      leaving = λ i is. absurd (cc);
    }

    by : (b : Bool) → z.chained ≡ b → HasQueues (cond b f (no_command d))
    by true on = now
    by false off = record {
      each = λ e x p there on queued placed.
          ⊎_elim
          (λ (same : e ≡ k).
          let one : framed_of z ≡ x = same_Some (framed_of z) x (sym (ap (λ i. option_map framed_of (slice_get d.endpoints i)) same ∙ ap (option_map framed_of) here) ∙ there) in
          absurd (false≢true (sym off ∙ ap (λ (w : Framed). w.chained) one ∙ on)))
          (λ (differs : e ≡ k → ⊥). old.each e x p differs there on queued placed) (cases_eq e k);
      many = old.many;
      room = old.room;
      leaving = λ i is. absurd (cc);
    }
