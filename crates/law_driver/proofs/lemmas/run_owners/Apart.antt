-- Runs that begin in different blocks of the book share no block.
use Rattle.std.proofs.Common.{◌≡◌, ◌≢◌, ℕ, zero, suc, ◌+◌, ◌<◌, ◌≤◌, List, [], ◌∷◌, length, set, ap, ⊎_elim, refl, arith}
use Rattle.std.proofs.lemmas.Bool.{cases_lt}
use Rattle.std.proofs.lemmas.List.{get_or-set_other}
use Rattle.word_mem.specs.Owners.{holders}
use Rattle.word_mem.proofs.Holders.{holders-append, holders_has}
use Rattle.mem_runs.specs.Book.{Holding, Stands, kept_of, lent_of, kept_in, lent_in, slot_of}
use Rattle.mem_runs.specs.declared.slots.Slot.{Slot}
use Rattle.mem_runs.specs.declared.slots.Slot.TheVariants.{Empty, Keeps, Lends}
use Rattle.mem_runs.proofs.Changed.{slot_within, held_get}
use Rattle.claims_driver.specs.Owners.{SlotHas}

kept_part : (slots : List Slot) (c x : ℕ) → holders (kept_of (slot_of slots c)) x ≤ holders (kept_in slots) x
kept_part [] c x = omega arith
kept_part (s ∷ slots) zero x = omega (arith, holders-append (kept_of s) (kept_in slots) x)
kept_part (s ∷ slots) (suc c) x = omega (arith, holders-append (kept_of s) (kept_in slots) x, kept_part slots c x)

lent_part : (slots : List Slot) (c x : ℕ) → holders (lent_of (slot_of slots c)) x ≤ holders (lent_in slots) x
lent_part [] c x = omega arith
lent_part (s ∷ slots) zero x = omega (arith, holders-append (lent_of s) (lent_in slots) x)
lent_part (s ∷ slots) (suc c) x = omega (arith, holders-append (lent_of s) (lent_in slots) x, lent_part slots c x)

slot_holds : (s : Slot) (x : ℕ) → SlotHas s x → holders (kept_of s) x + holders (lent_of s) x ≡ 1
slot_holds Empty x has = absurd has
slot_holds (Keeps r) x has = let h = holders_has r [] x has in omega (arith, h)
slot_holds (Lends r) x has = let h = holders_has r [] x has in omega (arith, h)

slot_some : (s : Slot) (x : ℕ) → SlotHas s x → s ≡ Empty → ⊥
slot_some Empty x has e = has
slot_some _ x has e = cc

pub runs_apart : (h : Holding) (b c x : ℕ) → Stands h → c ≢ b → SlotHas (slot_of h.book.slots b) x → SlotHas (slot_of h.book.slots c) x → ⊥
runs_apart h b c x stands differs one two =
    let slots = h.book.slots in
    let s = slot_of slots b in
    let rest = set slots b Empty in
    let held = held_get h.memory slots b s (slot_within slots b (slot_some s x one)) refl stands.held in
    let same : slot_of rest c ≡ slot_of slots c = get_or-set_other slots b c Empty Empty differs in
    let k = kept_part rest c x in
    let l = lent_part rest c x in
    let other = slot_holds (slot_of slots c) x two in
    let ks = ap (λ t. holders (kept_of t) x) same in
    let ls = ap (λ t. holders (lent_of t) x) same in
    omega (arith, held.once x, holders-append (kept_of s) (kept_in rest) x, holders-append (lent_of s) (lent_in rest) x, k, l, ks, ls, other, slot_holds s x one)

-- and each block of a run lies in memory
pub has_within : (h : Holding) (b x : ℕ) → Stands h → SlotHas (slot_of h.book.slots b) x → x < length h.memory.states
has_within h b x stands has =
    ⊎_elim (λ (below : x < length h.memory.states). below)
    (λ (past : length h.memory.states ≤ x).
    absurd (omega (arith, stands.held.within x past, kept_part h.book.slots b x, lent_part h.book.slots b x, slot_holds (slot_of h.book.slots b) x has)))
    (cases_lt x (length h.memory.states))
