-- Lemmas that several files need.
use Rattle.std.proofs.Common.{ℕ, slice_get, ◌≡◌, Some, [], List, ◌++◌, sym, ◌∙◌, ap, Bool, if◌then◌else◌, true, refl, false, subst, Option, inr, ◌∷◌, inl, ⊎_elim, None, not, ◌&&◌, slice_index, arith}
use Rattle.std.proofs.lemmas.List.{append_assoc}
use Rattle.std.proofs.lemmas.Bool.{eq-eqb, eqb-true, false≢true, and_parts}
use Rattle.std.specs.Prelude.{◌⊎◌, is_none}
use Rattle.usb_base.specs.declared.packets.Way.{Way}
use Rattle.usb_base.specs.declared.packets.EpKind.{EpKind}
use Rattle.word_mem.specs.Memory.{Mem, word_at}
use Rattle.mem_runs.specs.Book.{Book}
use Rattle.law_common.proofs.Booleans.{either_if, not_on}
use Rattle.claims_base.specs.Prefix.{IsPrefix}
use Rattle.claims_report.specs.Streams.{told}
use Rattle.claims_report.specs.Reports.{taken}
use Rattle.drv_chains.specs.declared.members.Member.{Member}
use Rattle.drv_chains.specs.Chains.{has_name, id_of}
use Rattle.drv_members.specs.Members.{IsKept, takes, is_member, has_room}
use Rattle.drv_periodic.specs.Periodic.{Periodic, inserting}
use Rattle.link_words.specs.Links.{link_of, link_read}
use Rattle.drv_periodic_table.specs.Linking.{linking, may_link, begun, with_first, begun_next}
use Rattle.drv_periodic_table.specs.Periodic.{PeriodicContent}
use Rattle.qh_qtd.specs.declared.queue_head.Qh.{Qh}
use Rattle.qh_qtd.proofs.QhLaws.{qh_read-link, qh_read-words}
use Rattle.qh_qtd.specs.QueueHead.{qh_words}
use Rattle.drv_table.specs.declared.content.Transfer.{Transfer}
use Rattle.drv_table.specs.declared.content.Endpoint.{Endpoint}
use Rattle.drv_table.specs.Words.{is_control}
use Rattle.drv_table.specs.declared.content.Command.{Command}
use Rattle.drv_table.specs.declared.content.Mend.{Mend}
use Rattle.drv_table.specs.DriverContent.{DriverContent}
use Rattle.drv_table.specs.Commands.{finished, no_command}
use Rattle.law_structures.specs.lent_structures.Structures.{Structures, HoldsQueueHead}
use Rattle.claims_driver.specs.Owners.{is_descriptor, FrameList, QueueHead}
use Rattle.law_driver.specs.AsynchronousScripts.{IsKindOf}
use Rattle.claims_driver.specs.Ring.{IsAmong, first, later}
use Rattle.claims_driver.specs.Unlinked.{led_in}
use Rattle.law_driver.specs.queued_drivers.Queued.{queued_transfer, sort_of_queue}
use Rattle.law_driver.proofs.Common.{no_work}
use Rattle.law_driver_ring.specs.fed_queues.Places.{IsThere}
use Rattle.law_queues.specs.standing_fronts.Reaching.{Reaches}
use Rattle.law_queues.proofs.Common.{none_open}
use Rattle.claims_world.specs.Requests.{opens}
use Rattle.law_frame_words.proofs.lemmas.frame_words.Begins.{out_again}
use Rattle.law_descriptors.proofs.Chained.{out_of_ring}
use Rattle.law_descriptors.proofs.Common.{out_of_frames, first_of_words}
use Rattle.law_descriptors.proofs.ListRows.{idle_led, unlinking_led}
use Rattle.usb_base.specs.declared.packets.Way.TheVariants as ways
use Rattle.drv_table.specs.declared.content.Command.TheVariants as unfinished
use Rattle.drv_table.specs.declared.rows.DriverRow.TheVariants as rows

pub no_transfer : (t : ℕ) (y : Transfer) → slice_get {X = Transfer} [] t ≡ Some y → ⊥
no_transfer t y there = cc

pub told_first : (told held all taken : List ℕ) → told ++ held ≡ all → IsPrefix all taken → IsPrefix told taken
told_first told held all taken sum k = (held ++ k.0, sym (append_assoc told held k.0) ∙ ap (λ (xs : List ℕ). xs ++ k.0) sum ∙ k.1)

pub queued_owner : (xs : List Endpoint) (y : Transfer) → (queued_transfer xs y).endpoint ≡ y.endpoint
queued_owner xs y = by (is_descriptor y.sort)
  where
    by : (b : Bool)
        → (if b then record y { sort = sort_of_queue (slice_get xs y.endpoint); reported = true; released = true } else y).endpoint
        ≡ y.endpoint
    by true = refl
    by false = refl

pub control_kind : (way : Way) (kind : EpKind) → way ≡ ways.Ctl → IsKindOf way kind → is_control kind ≡ true
control_kind way kind is k = ap is_control (subst (λ (v : Way). IsKindOf v kind) is k)

pub opens_is : (o : Option Command) (b : ℕ) → o ≡ Some (unfinished.Open b) → opens o b ≡ true
opens_is o b is = ap (λ (c : Option Command). opens c b) is ∙ eq-eqb b b refl

pub opened_is : (c : Option Command) (b : ℕ) → opens c b ≡ true → c ≡ Some (unfinished.Open b)
opened_is (Some (unfinished.Open queue)) b on = ap (λ (q : ℕ). Some (unfinished.Open q)) (eqb-true queue b on)
opened_is _ b on = absurd (false≢true on)

pub among_either : (f : ℕ) (es fs : List ℕ) → IsAmong f (es ++ fs) → IsAmong f es ⊎ IsAmong f fs
among_either f [] fs a = inr a
among_either f (e ∷ es) fs (first _) = inl (first es)
among_either f (e ∷ es) fs (later _ _ rest) =
    ⊎_elim (λ (w : IsAmong f es). inl (later e es w)) (λ (w : IsAmong f fs). inr w) (among_either f es fs rest)

pub same_mend : (a b : Mend) → rows.Mend a ≡ rows.Mend b → a ≡ b
same_mend a b is = cc

pub reaches_by : (d : DriverContent) (c : Option Command) (made : ℕ) (part : Structures) (order : ℕ → ℕ) (out : List ℕ) (e : ℕ)
    (x : Endpoint) (a : ℕ) → Reaches d part order out e x a → Reaches (record d { command = c; made = made }) part order out e x a
reaches_by d c made part order out e x a k =
    record {
      stands = record { front = k.stands.front; has = k.stands.has; ended = k.stands.ended; passed = k.stands.passed };
      within =
          k.within;
      tail = k.tail;
    }

pub no_list : (e : ℕ) → FrameList ≡ QueueHead e → ⊥
no_list e same = cc

pub reach_beside : (d : DriverContent) (book : Book) (command : Option Command) (made : ℕ) (part : Structures) (order : ℕ → ℕ)
    (out : List ℕ) (e : ℕ) (x : Endpoint) (c : ℕ)
    → Reaches d part order out e x c → Reaches (record d { book = book; command = command; made = made }) part order out e x c
reach_beside d book command made part order out e x c k = record {
  stands = record { front = k.stands.front; has = k.stands.has; ended = k.stands.ended; passed = k.stands.passed };
  within = k.within;
  tail = k.tail;
}

pub done_none : (d : DriverContent) (c : Command) → (finished d c).command ≡ None
done_none d (unfinished.Unlink e b link) = out_of_ring (no_command d) e (slice_get d.endpoints e) refl
done_none d (unfinished.Unchain e) = out_of_frames (no_command d) e (slice_get d.endpoints e) refl
done_none d _ = refl

pub linking_led : (p : Periodic) (x : Member) → IsKept p.members.schedule → led_in (linking p x) ≡ led_in p
linking_led p x kept =
    either_if (λ (r : Periodic). led_in r ≡ led_in p) (may_link p x) (inserting p x) p
    (λ e.
    let both = and_parts (is_none p.work) (takes p.members x) e in
    let one = and_parts (is_member x) (not (has_name p.members.schedule (id_of x)) && has_room p.members x) both.1 in
    let new = and_parts (not (has_name p.members.schedule (id_of x))) (has_room p.members x) one.1 in
    out_again p.members.schedule x kept (not_on (has_name p.members.schedule (id_of x)) new.0) ∙ sym (idle_led p (no_work p.work both.0)))
    (λ e. refl)

pub begun_led : (removes : Bool) (p : Periodic) (x : Member) → IsKept p.members.schedule → led_in (begun removes p x) ≡ led_in p
begun_led true p x kept = unlinking_led p x
begun_led false p x kept = linking_led p x kept

pub first_led : (removes : Bool) (q : PeriodicContent) (ms : List Member) → IsKept q.list.members.schedule
    → led_in (with_first removes q ms).list ≡ led_in q.list
first_led removes q [] kept = refl
first_led removes q (x ∷ xs) kept = begun_led removes q.list x kept

pub next_led : (removes : Bool) (q : PeriodicContent) → IsKept q.list.members.schedule → led_in (begun_next removes q).list ≡ led_in q.list
next_led removes q kept =
    either_if (λ (r : PeriodicContent). led_in r.list ≡ led_in q.list) (is_none q.list.work) (with_first removes q q.queued) q
    (λ e. first_led removes q q.queued kept) (λ e. refl)

pub queue_told : (m : Mem) (a : ℕ) (q : Qh) → HoldsQueueHead m a q → link_of q.link ≡ link_read (word_at m a)
queue_told m a q h =
    qh_read-link (qh_words q) q (qh_read-words q h.range) ∙ ap (λ ws. link_read (slice_index ws 0)) (sym h.words)
    ∙ ap link_read (first_of_words m a 12 (omega arith))

pub idle_there : (d : DriverContent) (x : Endpoint) → d.command ≡ None → x.gone ≡ false → IsThere d x
idle_there d x idle kept = record { linked = λ is. none_open x.queue (sym idle ∙ is); kept = kept }
