-- Along the links of memory: what is met there, and what stays of the way to a structure where links stay (EHCI 1.0, 4.6).
use Rattle.std.proofs.Common.{◌≡◌, ℕ, ◌⊎◌, Bool, true, false, inl, inr, Option, Some, None, ap, refl, sym, subst, ◌∙◌}
use Rattle.std.proofs.lemmas.Bool.{false≢true}
use Rattle.std.proofs.lemmas.Option.{same_Some}
use Rattle.word_mem.specs.Memory.{Mem}
use Rattle.link_words.specs.declared.kinds.Link.{Link}
use Rattle.link_words.specs.declared.kinds.Link.TheVariants as links
use Rattle.periodic_walk.specs.declared.state.Hand.{Hand}
use Rattle.periodic_walk.specs.Walk.{over_at, is_over}
use Rattle.hc_core.specs.Controller.{Control}
use Rattle.claims_world.specs.Visits.{name_of, next_of, IsLedTo, is_there, leads_on}
use Rattle.law_microframes.specs.visits.Visited.{link_ahead, IsToCome}

-- the way begins at the structure at a
pub way_on : (m : Mem) (n a : ℕ) (o : Option ℕ) → o ≡ Some a → IsLedTo m n o → (n ≡ a) ⊎ IsLedTo m n (next_of m a)
way_on m n a _ is is_there = inl (same_Some n a is)
way_on m n a _ is (leads_on b more) = inr (subst (λ (i : ℕ). IsLedTo m n (next_of m i)) (same_Some b a is) more)

pub no_way : (m : Mem) (n : ℕ) (o : Option ℕ) → o ≡ None → IsLedTo m n o → ⊥
no_way m n _ is is_there = cc
no_way m n _ is (leads_on b more) = cc

-- along links that stay
pub way_stays : (m new : Mem) (kept : ℕ → Bool) (n : ℕ) (o : Option ℕ) → ((a b : ℕ) → kept a ≡ true → next_of m a ≡ Some b → kept b ≡ true)
    → ((a : ℕ) → kept a ≡ true → next_of new a ≡ next_of m a) → ((a : ℕ) → o ≡ Some a → kept a ≡ true) → IsLedTo m n o → IsLedTo new n o
way_stays m new kept n _ closed same on is_there = is_there
way_stays m new kept n _ closed same on (leads_on a more) =
    let here : kept a ≡ true = on a refl in
    leads_on a (subst (IsLedTo new n) (sym (same a here))
    (way_stays m new kept n (next_of m a) closed same (λ b is. closed a b here is) more))

-- ---- a walk that is over comes to nothing

over_ends : (o : Option Hand) (l : Link) → over_at o l ≡ true → name_of (link_ahead o l) ≡ None
over_ends None links.End is = refl
over_ends None (links.Itd a) is = absurd (false≢true is)
over_ends None (links.Qh a) is = absurd (false≢true is)
over_ends None (links.Sitd a) is = absurd (false≢true is)
over_ends None (links.Fstn a) is = absurd (false≢true is)
over_ends (Some hand) l is = absurd (false≢true is)

pub none_to_come : (m : Mem) (c : Control) (n : ℕ) → is_over c.frame ≡ true → IsToCome m c n → ⊥
none_to_come m c n over t = no_way m n (name_of (link_ahead c.frame.hand c.frame.cursor))
    (over_ends c.frame.hand c.frame.cursor over) t.leads
