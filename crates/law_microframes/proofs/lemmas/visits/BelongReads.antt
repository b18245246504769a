-- What is read of a queue head has the fields that stand in memory, and an endpoint has one.
use Rattle.std.proofs.Common.{◌≡◌, ℕ, ◌+◌, ◌*◌, ◌/◌, max, List, slice_get, slice_index, Some, Ok, ap, refl, sym, subst, ◌∙◌, arith}
use Rattle.std.proofs.lemmas.Option.{same_Some}
use Rattle.law_microframes.proofs.Common.{read_ok}
use Rattle.word_mem.specs.Memory.{Mem, word_at}
use Rattle.word_mem.specs.Views.{words_in, words_at}
use Rattle.link_words.specs.Layout.{bits}
use Rattle.qh_qtd.specs.declared.queue_head.Qh.{Qh}
use Rattle.qh_qtd.specs.QueueHead.{qh_at, qh_read}
use Rattle.qh_qtd.proofs.QhLaws.{qh_read-is}
use Rattle.mem_queues.specs.Structures.{reaches_queue_head, queue_head_at_address}
use Rattle.drv_table.specs.Words.{speed_field}
use Rattle.drv_table.specs.declared.content.Endpoint.{Endpoint}
use Rattle.drv_table.specs.Kinds.{is_iso}
use Rattle.law_microframes.specs.visits.Belonging.{HeadIsRead, NamesAreApart}

-- ---- the fields of what is read

pub record HasReadFields (first second : ℕ) (q : Qh) : Type 0 where
  pub eps : q.eps ≡ bits 13 12 first
  pub longest : q.max ≡ bits 26 16 first
  pub mult : q.mult ≡ bits 31 30 second
  pub smask : q.smask ≡ bits 7 0 second
  pub cmask : q.cmask ≡ bits 15 8 second

fields_at : (ws : List ℕ) → HasReadFields (slice_index ws 1) (slice_index ws 2) (qh_at ws)
unfolding qh_at
fields_at ws = record { eps = refl; longest = refl; mult = refl; smask = refl; cmask = refl }

pub fields_read : (ws : List ℕ) (q : Qh) → qh_read ws ≡ Ok q → HasReadFields (slice_index ws 1) (slice_index ws 2) q
fields_read ws q is = subst (HasReadFields (slice_index ws 1) (slice_index ws 2)) (sym (qh_read-is ws q is)) (fields_at ws)

pub word_one : (ws : List ℕ) (a : ℕ) → slice_index (words_in ws a 12) 1 ≡ slice_index ws ((a + 4) / 4)
unfolding words_in
word_one ws a = refl

pub word_two : (ws : List ℕ) (a : ℕ) → slice_index (words_in ws a 12) 2 ≡ slice_index ws ((a + 8) / 4)
unfolding words_in
word_two ws a = let e : a + 4 + 4 ≡ a + 8 = omega arith in ap (λ (i : ℕ). slice_index ws (i / 4)) e

pub read_fields : (m : Mem) (a : ℕ) (q : Qh) → queue_head_at_address m a ≡ Some q → HasReadFields (word_at m (a + 4)) (word_at m (a + 8)) q
read_fields m a q is =
    subst (λ (second : ℕ). HasReadFields (word_at m (a + 4)) second q) (word_two m.words a)
    (subst (λ (first : ℕ). HasReadFields first (slice_index (words_at m a 12) 2) q) (word_one m.words a) (fields_read (words_at m a 12) q (read_ok m a q (reaches_queue_head m a) is)))

pub head_is_read : HeadIsRead
head_is_read w n q b have high is =
    let x = b.belongs.endpoint in
    let h = have b.belongs.number x b.belongs.placement b.belongs.here (ap is_iso b.kind) b.belongs.kept b.belongs.placed in
    let r = read_fields w.memory (32 * x.queue) q (ap (queue_head_at_address w.memory) (sym b.name) ∙ is) in
    record {
      speed = high;
      kind = b.kind;
      high = r.eps ∙ h.speed ∙ ap speed_field high;
      max = r.longest ∙ h.longest;
      multi = ap (max 1) r.mult ∙ h.multi;
      smask = r.smask ∙ h.smask;
    }

-- ---- an endpoint has one queue head

pub names_are_apart : NamesAreApart
names_are_apart d n k b c same =
    b.name ∙ ap (λ (x : Endpoint). 32 * x.queue) (same_Some b.belongs.endpoint c.belongs.endpoint (sym b.belongs.here ∙ ap (slice_get d.endpoints) same ∙ c.belongs.here)) ∙ sym c.name
