-- A transaction leaves the bit of a missed microframe, and so does each event of the walk of the ring; nothing that a driver writes for a ring's endpoint sets it.
use Rattle.std.proofs.Common.{◌≡◌, ◌≢◌, ℕ, suc, ◌*◌, ◌≤◌, Bool, true, false, ◌==◌, cond, nat_eq, nat_le, if◌then◌else◌, List, Option, Some, None, ap, sym, subst, ◌∙◌, ⊎_elim, refl, arith}
use Rattle.usb_base.specs.declared.endpoints.EndCause.TheVariants as causes
use Rattle.usb_base.specs.declared.endpoints.EpDesc.{EpDesc}
use Rattle.usb_base.specs.declared.packets.Ask.{Ask}
use Rattle.usb_base.specs.declared.packets.Reply.{Reply}
use Rattle.usb_base.specs.declared.reports.What.{What}
use Rattle.usb_base.specs.declared.reports.What.TheVariants as lines
use Rattle.toggle_error.specs.declared.host.HostSide.{HostSide}
use Rattle.toggle_error.specs.declared.rows.CompleteRow.{CompleteRow}
use Rattle.toggle_error.specs.declared.rows.CompleteRow.TheVariants.{Answered}
use Rattle.toggle_error.specs.declared.rows.PlainRow.{PlainRow}
use Rattle.toggle_error.specs.declared.rows.PlainRow.TheVariants as plains
use Rattle.toggle_error.specs.declared.rows.SettleRow.{SettleRow}
use Rattle.toggle_error.specs.declared.rows.SettleRow.TheVariants.{Plain, Start, Complete}
use Rattle.toggle_error.specs.declared.rows.StartRow.{StartRow}
use Rattle.toggle_error.specs.declared.rows.StartRow.TheVariants.{Accepted}
use Rattle.toggle_error.specs.PlainRows.{after_plain}
use Rattle.toggle_error.specs.SplitRows.{after_start, after_complete}
use Rattle.toggle_error.specs.Settle.{settle_row, after_settle_row}
use Rattle.link_words.specs.declared.fields.LinkBits.{LinkBits}
use Rattle.qh_qtd.specs.declared.qtd.Qtd.{Qtd}
use Rattle.qh_qtd.specs.declared.queue_head.Qh.{Qh}
use Rattle.qh_qtd.specs.declared.token.Token.{Token}
use Rattle.drv_table.specs.declared.content.Command.TheVariants as unfinished
use Rattle.drv_table.specs.declared.content.QtdNote.{QtdNote}
use Rattle.drv_table.specs.declared.content.Stage.{Stage}
use Rattle.drv_table.specs.declared.rows.Found.TheVariants as founds
use Rattle.drv_table.specs.DriverContent.{DriverContent}
use Rattle.drv_table.specs.Harvests.{note_at, token_in, halt_of, moved_of, ends_by, done_of, found_in}
use Rattle.drv_table.specs.Parts.{Parts}
use Rattle.drv_table.specs.Words.{queue_head, dummy_qtd}
use Rattle.law_driver.specs.run_owners.Due.{IsHarvestDue}
use Rattle.law_driver.specs.chained_transfers.Asynchronous.{OnlyAsynchronous}
use Rattle.law_driver.proofs.lemmas.chained_transfers.Ways.{found_by, moves_queued}
use Rattle.hc_copy.specs.Overlay.{advanced, moved, settled_queue}
use Rattle.hc_copy.specs.Transacting.{call_in, host_after}
use Rattle.hc_copy.specs.WriteBack.{moved_by}
use Rattle.async_walk.specs.declared.state.WalkStep.{WalkStep}
use Rattle.async_walk.specs.Naks.{planned}
use Rattle.law_structures.specs.lent_structures.Changes.{relinked}
use Rattle.law_structures.specs.lent_structures.Structures.{Structure, QueueHead, Element, StructureSets, Tells, put}
use Rattle.law_structures.specs.lent_structures.WriteBack.{Received, Nothing, Into, qtd_after, received_parts}
use Rattle.law_structures.proofs.lemmas.lent_structures.Names.{put_found}
use Rattle.law_driver_ring.proofs.lemmas.harvested_streams.Harvesting.{token_is_read}
use Rattle.law_ring.specs.Hand.{Copy, copied_queue, Settlement, settled_queue_of, Hand, Empty, Copied, Settled, Stale}
use Rattle.law_ring.specs.Effects.{received_into, Effect}
use Rattle.law_ring.specs.Effects.Effect.{reads, passes, ends, takes, makes, writes_back}
use Rattle.law_ring.specs.Fewer.{without_those}
use Rattle.law_ring.specs.Stores.{hand_linked, hand_stale}
use Rattle.law_driver_ring.specs.Pieces.{stage_qtd}
use Rattle.law_driver_ring.specs.Published.{partly}
use Rattle.law_reports.specs.requests.Missed.{IsUnmissed, NoneMissed, MissesNone, PublishesNoneBy, PublishesNone, MissNone}

-- ---- a transaction

plain_missed : (row : PlainRow) (host : HostSide) → (after_plain row host).missed ≡ host.missed
plain_missed (plains.Received n) host = refl
plain_missed _ host = refl

start_missed : (row : StartRow) (host : HostSide) → (after_start row host).missed ≡ host.missed
start_missed Accepted host = refl
start_missed _ host = refl

complete_missed : (row : CompleteRow) (host : HostSide) → (after_complete row host).missed ≡ host.missed
complete_missed (Answered row) host = plain_missed row host
complete_missed _ host = refl

row_missed : (row : SettleRow) (host : HostSide) → (after_settle_row row host).missed ≡ host.missed
row_missed (Plain row) host = plain_missed row host
row_missed (Start row) host = start_missed row host
row_missed (Complete row) host = complete_missed row host

made_missed : (q : Qh) (out : List ℕ) (reply : Reply) → (host_after (planned q) out false reply).missed ≡ q.token.missed
made_missed q out reply = row_missed (settle_row (call_in (planned q) out false).ask (call_in (planned q) out false).sent false reply (planned q).host) (planned q).host

-- ---- what the driver writes

pub new_head_is_unmissed : (x : EpDesc) (link dummy : ℕ) → IsUnmissed (QueueHead (queue_head x link dummy))
new_head_is_unmissed x link dummy = refl

pub new_qtd_is_unmissed : (notes : List QtdNote) (s : Stage) (b dummy : ℕ) (last : Bool)
    → IsUnmissed (Element (stage_qtd notes s b dummy last))
new_qtd_is_unmissed notes s b dummy last = refl

pub dummy_is_unmissed : IsUnmissed (Element dummy_qtd)
dummy_is_unmissed = refl

pub writing_misses_none : (asked : ℕ → Bool) (parts : StructureSets) (n a : ℕ) (s : Structure) → (asked n ≡ true → IsUnmissed s)
    → NoneMissed asked parts → NoneMissed asked (put parts n a s)
writing_misses_none asked parts n a s new none = record {
  heads = λ k q on here. by k k (QueueHead q) on here (λ was. none.heads k q on was);
  elements = λ k b t on here. by k b (Element t) on here (λ was. none.elements k b t on was);
}
  where
    by : (k b : ℕ) (t : Structure) → asked k ≡ true → put parts n a s k b ≡ Some t → (parts k b ≡ Some t → IsUnmissed t) → IsUnmissed t
    by k b t on here still =
        ⊎_elim {C = IsUnmissed t} (λ (own : (k ≡ n) × (b ≡ a) × (t ≡ s)). subst IsUnmissed (sym own.2) (new (ap asked (sym own.0) ∙ on))) (λ (old : parts k b ≡ Some t). still old) (put_found parts n a s k b t here)

found_still : (goes : Bool) (o : Option Structure) (s : Structure) → cond goes None o ≡ Some s → o ≡ Some s
found_still true o s here = absurd (cc)
found_still false o s here = here

-- where nothing is new
pub fewer_unmissed : (asked : ℕ → Bool) (parts now : StructureSets) → ((n a : ℕ) (s : Structure) → now n a ≡ Some s → parts n a ≡ Some s)
    → NoneMissed asked parts → NoneMissed asked now
fewer_unmissed asked parts now was none = record { heads = λ n q on here. none.heads n q on (was n n (QueueHead q) here); elements = λ n a t on here. none.elements n a t on (was n a (Element t) here) }

-- of fewer queue heads
pub narrow_unmissed : (asked now : ℕ → Bool) (parts : StructureSets) → ((n : ℕ) → now n ≡ true → asked n ≡ true) → NoneMissed asked parts
    → NoneMissed now parts
narrow_unmissed asked now parts was none = record { heads = λ n q on here. none.heads n q (was n on) here; elements = λ n a t on here. none.elements n a t (was n on) here }

pub narrow_misses : (asked now : ℕ → Bool) (hand : Hand) → ((n : ℕ) → now n ≡ true → asked n ≡ true) → MissesNone asked hand
    → MissesNone now hand
narrow_misses asked now Empty was none = tt
narrow_misses asked now (Copied c) was none = λ on. none (was c.at on)
narrow_misses asked now (Settled c s) was none = λ on. none (was c.at on)
narrow_misses asked now (Stale m q) was none = tt

pub release_misses_none : (asked : ℕ → Bool) (parts : StructureSets) (n : ℕ) (goes : ℕ → Bool) → NoneMissed asked parts
    → NoneMissed asked (without_those parts n goes)
release_misses_none asked parts n goes none = fewer_unmissed asked parts (without_those parts n goes) (λ k a s here. by k a s (k == n) here) none
  where
    by : (k a : ℕ) (s : Structure) (own : Bool) → cond own (λ (b : ℕ). if goes b then None else parts k b) (parts k) a ≡ Some s
        → parts k a ≡ Some s
    by k a s true there = found_still (goes a) (parts k a) s there
    by k a s false there = there

-- ---- what is in hand once a word was stored

pub linked_unmissed : (asked : ℕ → Bool) (n : ℕ) (l : LinkBits) (hand : Hand) → MissesNone asked hand
    → MissesNone asked (hand_linked n l hand)
linked_unmissed asked n l Empty none = tt
linked_unmissed asked n l (Copied c) none = λ on. by (c.at == n) (none on)
  where
    by : (b : Bool) → c.queue.token.missed ≡ false → (if b then record c.queue { link = l } else c.queue).token.missed ≡ false
    by true is = is
    by false is = is
linked_unmissed asked n l (Settled c s) none = none
linked_unmissed asked n l (Stale m q) none = tt

pub stale_unmissed : (asked : ℕ → Bool) (n : ℕ) (hand : Hand) → MissesNone asked hand → MissesNone asked (hand_stale n hand)
stale_unmissed asked n Empty none = tt
stale_unmissed asked n (Copied c) none = by (c.at == n)
  where
    by : (b : Bool) → MissesNone asked (if b then Stale n (copied_queue c) else Copied c)
    by true = tt
    by false = none
stale_unmissed asked n (Settled c s) none = none
stale_unmissed asked n (Stale m q) none = tt

-- ---- what is being published

pub none_published : (d : DriverContent) → d.command ≡ None → PublishesNone d
none_published d idle = subst (PublishesNoneBy d.made) (sym idle) tt

pub open_published : (d : DriverContent) (b : ℕ) → d.command ≡ Some (unfinished.Open b) → PublishesNone d
open_published d b opens = subst (PublishesNoneBy d.made) (sym opens) tt

pub unlink_published : (d : DriverContent) (e b link : ℕ) → d.command ≡ Some (unfinished.Unlink e b link) → PublishesNone d
unlink_published d e b link unlinks = subst (PublishesNoneBy d.made) (sym unlinks) tt

-- the structures are as they were
pub idle_misses : (asked : ℕ → Bool) (d c : DriverContent) (parts : StructureSets) (hand : Hand) → c.command ≡ None
    → MissNone asked d parts hand → MissNone asked c parts hand
idle_misses asked d c parts hand idle none = record { structures = none.structures; in_hand = none.in_hand; first = none_published c idle }

pub partly_unmissed : (t : Qtd) (k : ℕ) → (8 ≤ k → t.token.missed ≡ false) → (partly t k).token.missed ≡ false
partly_unmissed t (suc (suc (suc (suc (suc (suc (suc (suc k)))))))) is = is (omega arith)
partly_unmissed t _ is = refl

-- ---- an event of the walk

advanced_missed : (q : Qh) (a : ℕ) (t : Qtd) → (advanced q a t).token.missed ≡ t.token.missed
unfolding advanced
advanced_missed q a t = refl

moved_missed : (c : Copy) (s : Settlement) (n : ℕ) → (moved (settled_queue_of c s) n).token.missed ≡ s.host.missed
unfolding moved settled_queue
moved_missed c s n = refl

after_unmissed : (c : Qh) (t : Qtd) (b : Bool) → c.token.missed ≡ false → t.token.missed ≡ false
    → IsUnmissed (Element (cond b t (record t { token = c.token })))
after_unmissed c t true new old = old
after_unmissed c t false new old = new

received_unmissed : (asked : ℕ → Bool) (parts : StructureSets) (n : ℕ) (got : List ℕ) (r : Received) → NoneMissed asked parts
    → NoneMissed asked (received_parts parts n got r)
received_unmissed asked parts n got Nothing none = none
received_unmissed asked parts n got (Into pages k bs j) none = writing_misses_none asked parts n _ _ (λ on. tt) none

module _ {W : Type 0} (transacts : W → Ask → List ℕ → Reply → W → Type 0) (asked : ℕ → Bool) (parts : StructureSets) (hand : Hand) (wire after : W) (now : StructureSets) (later : Hand) where
  pub walk_misses_none : (kind : WalkStep) → Effect transacts parts hand wire after now later kind → NoneMissed asked parts
      → MissesNone asked hand → NoneMissed asked now × MissesNone asked later
  walk_misses_none kind (reads k same quiet) none had =
      (subst (NoneMissed asked) (sym same) none, subst (MissesNone asked) (sym k.in_hand) (λ on. none.heads k.copy.at k.copy.queue on k.here))
  walk_misses_none kind (passes k same quiet) none had = (subst (NoneMissed asked) (sym same) none, subst (MissesNone asked) (sym k.nothing) tt)
  walk_misses_none kind (ends k same quiet) none had = (subst (NoneMissed asked) (sym same) none, subst (MissesNone asked) (sym k.nothing) tt)
  walk_misses_none kind (takes k quiet) none had =
      let c = k.copy in
      let q = advanced c.queue k.element k.qtd in
      let new : asked c.at ≡ true → q.token.missed ≡ false = λ on. advanced_missed c.queue k.element k.qtd ∙ none.elements c.at k.element k.qtd on k.here in
      (subst (NoneMissed asked) (sym k.now_is) (writing_misses_none asked parts c.at c.at (QueueHead q) new none), subst (MissesNone asked) (sym k.later_is) new)
  walk_misses_none kind (makes k same) none had =
      let was : asked k.copy.at ≡ true → k.copy.queue.token.missed ≡ false = subst (MissesNone asked) k.in_hand had in
      (subst (NoneMissed asked) (sym same) none, subst (MissesNone asked) (sym k.later_is) (λ on. made_missed k.copy.queue k.out k.reply ∙ was on))
  walk_misses_none kind (writes_back k quiet) none had =
      let c = k.copy in
      let s = k.settled in
      let was : asked c.at ≡ true → s.host.missed ≡ false = subst (MissesNone asked) k.in_hand had in
      let r = received_into (parts c.at) c.queue k.element s.got in
      let h = settled_queue_of c s in
      let q = moved h (moved_by s.outcome) in
      let new : asked c.at ≡ true → q.token.missed ≡ false = λ on. moved_missed c s (moved_by s.outcome) ∙ was on in
      let one = received_parts parts c.at s.got r in
      let two = put one c.at c.at (QueueHead (relinked c.queue q)) in
      let old : asked c.at ≡ true → k.element.token.missed ≡ false = λ on. none.elements c.at c.queue.current k.element on k.here in
      let all : NoneMissed asked (put two c.at h.current (Element (qtd_after q k.element))) =
      writing_misses_none asked two c.at h.current (Element (qtd_after q k.element)) (λ on. after_unmissed q k.element q.token.active (new on) (old on))
      (writing_misses_none asked one c.at c.at (QueueHead (relinked c.queue q)) new (received_unmissed asked parts c.at s.got r none)) in
      (subst (NoneMissed asked) (sym k.now_is) all, subst (MissesNone asked) (sym k.nothing) tt)

-- ---- a harvest

halts : (b e : Bool) → cond b (lines.Halt causes.Babble) (cond e (lines.Halt causes.Error) (lines.Halt causes.Stall)) ≢ lines.Miss
halts true e same = cc
halts false true same = cc
halts false false same = cc

halt_unmissed : (t : Token) → t.missed ≡ false → halt_of t ≢ lines.Miss
halt_unmissed t unset same =
    halts t.babble (nat_eq t.cerr 0)
    (sym (ap (λ (m : Bool). if m then lines.Miss else if t.babble then lines.Halt causes.Babble else if nat_eq t.cerr 0 then lines.Halt causes.Error else lines.Halt causes.Stall) unset) ∙ same)

found_unmissed : (active halted done : Bool) (k n : ℕ) (what halt : What)
    → founds.Ended k what ≡ cond active founds.Active (cond halted (founds.Ended n halt) (done_of done n)) → halt ≢ lines.Miss
    → what ≢ lines.Miss
found_unmissed true halted done k n what halt is not same = absurd (cc)
found_unmissed false true done k n what halt is not same = let told : halt ≡ what = cc in not (told ∙ same)
found_unmissed false false true k n what halt is not same = absurd (cc)
found_unmissed false false false k n what halt is not same = absurd (cc)

pub harvest_misses_none : (asked : ℕ → Bool) (p : Parts) (e t k n : ℕ) (what : What) (due : IsHarvestDue p e t (founds.Ended k what)) (parts : StructureSets) (u : Qtd)
    → OnlyAsynchronous p.driver → Tells p.memory parts
    → asked n ≡ true → parts n (32 * due.transfer.place) ≡ Some (Element u) → NoneMissed asked parts → what ≢ lines.Miss
harvest_misses_none asked p e t k n what due parts u only tells on here none =
    let y = due.transfer in
    let note = note_at p.driver.notes y.place in
    let token = token_in p.memory y.place in
    let is : founds.Ended k what ≡ found_in y.sort (nat_le y.left 1) note token = due.tells ∙ found_by p.driver p.memory y y.sort (moves_queued p.driver y (only.moves t y due.there)) in
    let unset : token.missed ≡ false = ap (λ (z : Token). z.missed) (token_is_read p.memory parts n y.place u tells here) ∙ none.elements n (32 * y.place) u on here in
    found_unmissed token.active token.halted (ends_by y.sort (nat_le y.left 1) token.total) k (moved_of note.told token.total) what (halt_of token) is (halt_unmissed token unset)
