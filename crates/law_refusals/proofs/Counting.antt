-- Reads and writes of an event count at most one refusal, and where all of them were made none.
use Rattle.std.proofs.Common.{◌≡◌, ℕ, ◌+◌, Bool, true, false, List, length, if◌then◌else◌, refl, subst, ◌∙◌, ⊎_elim, inl, inr}
use Rattle.std.specs.Prelude.{nat_le}
use Rattle.word_mem.specs.Memory.{Mem, reaches, refused, with_word}
use Rattle.word_mem.specs.Views.{with_words}
use Rattle.mem_bytes.specs.Bytes.{all_reached, stored, with_bytes}
use Rattle.qh_qtd.specs.declared.queue_head.Qh.{Qh}
use Rattle.qh_qtd.specs.Token.{token_word}
use Rattle.op_registers.specs.RegisterFile.{RegisterFile}
use Rattle.toggle_error.specs.declared.host.Outcome.{Outcome}
use Rattle.mem_queues.specs.Structures.{overlay_words}
use Rattle.hc_copy.specs.Overlay.{pages_of, buffer_place, moved}
use Rattle.hc_copy.specs.Buffer.{Writing, size_of, placed, bytes_read, bytes_written}
use Rattle.hc_copy.specs.WriteBack.{moved_by, then_write, overlay_after, overlay_back, token_back, written_back}
use Rattle.async_walk.proofs.Refusals.{both_true, overlay_counts, stored_counts, reading_counts}
use Rattle.law_refusals.specs.Refusals.{IsOnce, Stops, GoesOnOrStops}
use Rattle.claims_base.specs.Controller.{GoesOn}

-- ---- one read or write

pub if_once : (b : Bool) (foreign : ℕ) (x y : Mem) → IsOnce foreign x.foreign → IsOnce foreign y.foreign → IsOnce foreign (if b then x else y).foreign
if_once true foreign x y one other = one
if_once false foreign x y one other = other

pub read_once : (b : Bool) (m : Mem) → IsOnce m.foreign (if b then m else refused m).foreign
read_once b m = if_once b m.foreign m (refused m) (inl refl) (inr refl)

pub overlay_once : (m : Mem) (a : ℕ) (q : Qh) → IsOnce m.foreign (overlay_after m a q).foreign
unfolding overlay_after
overlay_once m a q =
    if_once (reaches m a) m.foreign _ (refused m)
    (if_once (reaches m (a + 32)) m.foreign (with_words m (a + 12) (overlay_words q)) _ (inl refl) (inr refl)) (inr refl)

stored_once : (m : Mem) (pages : List ℕ) (k : ℕ) (bs : List ℕ) → IsOnce m.foreign (stored m pages k bs).foreign
unfolding stored
stored_once m pages k bs = if_once (all_reached m pages k (length bs)) m.foreign (with_bytes m pages k bs) _ (inl refl) (inr refl)

reading_once : (inside reach : Bool) (m : Mem) → IsOnce m.foreign (if inside then (if reach then m else refused m) else m).foreign
reading_once inside reach m = if_once inside m.foreign _ m (read_once reach m) (inl refl)

pub sent_once : (pages : List ℕ) (from n : ℕ) (m : Mem) → IsOnce m.foreign (bytes_read pages from n m).memory.foreign
sent_once pages from n m = reading_once (nat_le (from + n) (size_of pages)) (all_reached m pages from n) m

pub sent_same : (pages : List ℕ) (from n : ℕ) (m : Mem) → (bytes_read pages from n m).all ≡ true → (bytes_read pages from n m).memory.foreign ≡ m.foreign
sent_same pages from n m all = reading_counts (nat_le (from + n) (size_of pages)) (all_reached m pages from n) m all

-- ---- writes, one after the other

pub record IsCounted (m : Mem) (w : Writing) : Type 0 where
  pub same : w.all ≡ true → w.memory.foreign ≡ m.foreign
  pub once : IsOnce m.foreign w.memory.foreign

-- by whether a write may be made
pub write_counted : (b : Bool) (m other : Mem) → other.foreign ≡ m.foreign → IsCounted m (record { memory = if b then other else refused m; all = b })
write_counted true m other same = record { same = λ all. same; once = inl same }
write_counted false m other same = record { same = λ all. absurd cc; once = inr refl }

-- the later ones are made only where the earlier ones all were
pub then_counted : (m first : Mem) (b : Bool) (next : Mem → Writing) → IsCounted m (record { memory = first; all = b }) → ((x : Mem) → IsCounted x (next x)) → IsCounted m (then_write (record { memory = first; all = b }) next)
then_counted m first true next before after =
    let same : first.foreign ≡ m.foreign = before.same refl in
    record {
      same = λ all. (after first).same all ∙ same;
      once = subst (λ (n : ℕ). IsOnce n (next first).memory.foreign) same (after first).once;
    }
then_counted m first false next before after = before

pub bytes_counted : (pages : List ℕ) (from : ℕ) (got : List ℕ) (m : Mem) → IsCounted m (bytes_written pages from got m)
bytes_counted pages from got m = record {
  same = λ all. stored_counts m pages from (placed pages from got)
      (both_true (all_reached m pages from (length (placed pages from got))) (nat_le (from + length got) (size_of pages)) all).0;
  once = stored_once m pages from (placed pages from got);
}

overlay_counted : (a : ℕ) (q : Qh) (m : Mem) → IsCounted m (overlay_back a q m)
overlay_counted a q m = record { same = λ reach. overlay_counts m a q reach; once = overlay_once m a q }

-- by whether the qTD goes on
abbrev token_writing : Bool → Mem → Mem → Bool → Writing
token_writing active m other reach = if active then record { memory = m; all = true } else record { memory = other; all = reach }

token_at : (active : Bool) (m other : Mem) (reach : Bool) → IsCounted m (record { memory = other; all = reach }) → IsCounted m (token_writing active m other reach)
token_at true m other reach counted = record { same = λ all. refl; once = inl refl }
token_at false m other reach counted = counted

token_counted : (q : Qh) (m : Mem) → IsCounted m (token_back q m)
token_counted q m =
    let written : Mem = with_word m (q.current + 8) (token_word q.token) in
    token_at q.token.active m (if reaches m q.current then written else refused m) (reaches m q.current) (write_counted (reaches m q.current) m written refl)

pub written_counted : (a : ℕ) (q : Qh) (outcome : Outcome) (got : List ℕ) (m : Mem) → IsCounted m (written_back a q outcome got m)
unfolding written_back
written_counted a q outcome got m =
    let new : Qh = moved q (moved_by outcome) in
    let bytes : Writing = bytes_written (pages_of q) (buffer_place q) got m in
    let both : Writing = then_write bytes (overlay_back a new) in
    then_counted m both.memory both.all (token_back new)
    (then_counted m bytes.memory bytes.all (overlay_back a new) (bytes_counted (pages_of q) (buffer_place q) got m) (overlay_counted a new)) (token_counted new)

-- ---- an event

pub goes_on : (r s : RegisterFile) (m n : Mem) → s.run ≡ r.run → s.host_system_error ≡ r.host_system_error → n.foreign ≡ m.foreign → GoesOnOrStops r m s n
goes_on r s m n run error count = inl (record { run = run; error = error; count = count })

pub stops : (r s : RegisterFile) (m n : Mem) → s.run ≡ false → s.host_system_error ≡ true → IsOnce m.foreign n.foreign → GoesOnOrStops r m s n
stops r s m n run error count = inr (record { run = run; error = error; count = count })

-- registers that differ in neither bit, before the event and after it
pub before_it : (r q : RegisterFile) (m : Mem) (s : RegisterFile) (n : Mem) → q.run ≡ r.run → q.host_system_error ≡ r.host_system_error → GoesOnOrStops q m s n → GoesOnOrStops r m s n
before_it r q m s n run error counts =
    ⊎_elim (λ (c : GoesOn q m s n). inl (record { run = c.run ∙ run; error = c.error ∙ error; count = c.count })) (λ (c : Stops m s n). inr c) counts
