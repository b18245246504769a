-- To which members the walk of the frames may go on once a store of the frame list is made: to the same, and to the member itself where its word is that of one to which it may.
-- Such a member is a queue head, since a descriptor comes right behind the element of its frame, which is read as the microframe begins.
use Rattle.std.proofs.Common.{◌≡◌, ◌≢◌, ℕ, ◌<◌, ◌⊎◌, Bool, true, false, inl, inr, Option, Some, ⊎_elim, ap, refl, sym, subst, ◌∙◌}
use Rattle.std.specs.Prelude.{◌||◌, ◌&&◌, ◌==◌, not}
use Rattle.std.proofs.lemmas.Bool.{false≢true, cases_eq, eq-eqb, eqb-true, and_parts, and_from}
use Rattle.std.proofs.lemmas.Option.{same_Some}
use Rattle.law_common.proofs.Lists.{nth_all}
use Rattle.law_frame_words.proofs.Common.{frames_below}
use Rattle.word_mem.specs.Memory.{Mem}
use Rattle.link_words.specs.Links.{link_read}
use Rattle.drv_chains.specs.declared.members.QueueHead.{QueueHead}
use Rattle.drv_chains.specs.declared.members.Member.{Member}
use Rattle.drv_chains.specs.declared.members.Member.TheVariants.{Once, Each}
use Rattle.drv_chains.specs.declared.members.Predecessor.TheVariants.{Element, After}
use Rattle.drv_chains.specs.Chains.{Schedule, predecessor, successor}
use Rattle.drv_chains.specs.Order.{frames}
use Rattle.drv_members.specs.Members.{frame_of}
use Rattle.drv_periodic.specs.declared.work.Work.{Work}
use Rattle.drv_periodic.specs.declared.work.Store.{Store}
use Rattle.drv_periodic.specs.Periodic.{Periodic, address_of, words_of}
use Rattle.drv_table.specs.DriverContent.{DriverContent}
use Rattle.law_microframes.specs.visits.Ranks.{name_of, next_of}
use Rattle.claims_world.specs.Visits.{begins}
use Rattle.law_microframes.specs.visits.Visited.{IsFirstIn}
use Rattle.law_microframes.proofs.lemmas.visits.SpliceWords.{IsBefore, all_before}
use Rattle.law_microframes.proofs.lemmas.visits.LinkSteps.{ListStep, GoesAt, at_element, at_member, next_name, g as its_word, goes, own, value_false, value_true, before_false, before_true}

-- ---- a queue head

pub record IsQueue (x : Member) : Type 0 where
  pub queue : QueueHead
  pub is : x ≡ Each queue

no_after : (f : ℕ) (x : Member) → Element f ≡ After x → ⊥
no_after f x same = cc

queue_by : (x : Member) (s : Schedule) (y : Member) → IsFirstIn s x → IsBefore s x (After y) → IsQueue x
queue_by (Each q) s y first before = record { queue = q; is = refl }
queue_by (Once d) s y first before =
    absurd (no_after d.frame y (sym first ∙ (ap (predecessor s (Once d)) (eqb-true d.frame before.frame before.stands) ∙ sym before.is)))

module _ (m mem : Mem) (d new : DriverContent) (p : Periodic) (w : Work) (st : Store) (k : ListStep m mem d new p w st) where
  abbrev behind : Option ℕ
  behind = next_name (successor p.members.schedule w.member (frame_of w.member))

  -- its word led to the member, or to the one behind it
  before_by : (b : Bool) → w.removes ≡ b → (next_of m st.at ≡ Some (begins w.member)) ⊎ (next_of m st.at ≡ behind)
  before_by false adds = before_false m mem d new p w st k adds
  before_by true removes =
      ⊎_elim {C = (next_of m st.at ≡ Some (begins w.member)) ⊎ (next_of m st.at ≡ behind)} (λ (past : next_of m st.at ≡ behind). inr past) (λ (it : next_of m st.at ≡ Some (begins w.member)). inl it)
      (before_true m mem d new p w st k removes)

  pub word_before : IsBefore p.members.schedule w.member (its_word m mem d new p w st k).word
  word_before =
      nth_all (IsBefore p.members.schedule w.member) (words_of p.members.schedule w) w.made (its_word m mem d new p w st k).word (all_before p.members.schedule w.member (frames 10) frames_below)
      (its_word m mem d new p w st k).here

  -- where its word is none of the list
  pub is_queue : IsFirstIn p.members.schedule w.member → ((i : ℕ) → i < 1024 → st.at ≡ address_of p.list (Element i) → ⊥) → IsQueue w.member
  is_queue first beside = by (goes m mem d new p w st k)
    where
      by : GoesAt p w st (its_word m mem d new p w st k).word → IsQueue w.member
      by (at_element i low at is) = absurd (beside i low at)
      by (at_member x linked other at is) = queue_by w.member p.members.schedule x first (subst (IsBefore p.members.schedule w.member) is word_before)

  -- ---- closed under the links

  module _ (kept ahead : ℕ → Bool) (are_kept : (n : ℕ) → ahead n ≡ true → kept n ≡ true) (closed : (n j : ℕ) → ahead n ≡ true → next_of m n ≡ Some j → ahead j ≡ true)
      (links : (n : ℕ) → kept n ≡ true → n ≢ st.at → next_of mem n ≡ next_of m n) (here : kept st.at ≡ true → next_of mem st.at ≡ name_of (link_read st.value))
      (own_link : next_of mem (begins w.member) ≡ next_of m (begins w.member)) where
    -- it is linked behind one to which the walk may go on
    abbrev pub comes : Bool
    comes = not w.removes && ahead st.at

    abbrev pub ahead_then : ℕ → Bool
    ahead_then n = ahead n || ((n == begins w.member) && comes)

    pub still_ahead : (n : ℕ) → ahead n ≡ true → ahead_then n ≡ true
    still_ahead n on = ap (λ (b : Bool). b || ((n == begins w.member) && comes)) on

    or_second : (a b : Bool) → b ≡ true → (a || b) ≡ true
    or_second true b on = refl
    or_second false b on = on

    name_ahead : w.removes ≡ false → ahead st.at ≡ true → ahead_then (begins w.member) ≡ true
    name_ahead adds on =
        or_second (ahead (begins w.member)) ((begins w.member == begins w.member) && comes)
        (and_from (begins w.member == begins w.member) comes (eq-eqb (begins w.member) (begins w.member) refl) (and_from (not w.removes) (ahead st.at) (ap not adds) on))

    or_parts : (a b : Bool) → (a || b) ≡ true → (a ≡ true) ⊎ (b ≡ true)
    or_parts true b on = inl refl
    or_parts false b on = inr on

    off : (b : Bool) → not b ≡ true → b ≡ false
    off true on = absurd (false≢true on)
    off false on = refl

    pub either_ahead : (n : ℕ) → ahead_then n ≡ true → (ahead n ≡ true) ⊎ ((n ≡ begins w.member) × ((w.removes ≡ false) × (ahead st.at ≡ true)))
    either_ahead n on =
        ⊎_elim {C = (ahead n ≡ true) ⊎ ((n ≡ begins w.member) × ((w.removes ≡ false) × (ahead st.at ≡ true)))} (λ (old : ahead n ≡ true). inl old)
        (λ (new : ((n == begins w.member) && comes) ≡ true).
        let both = and_parts (n == begins w.member) comes new in
        let it = and_parts (not w.removes) (ahead st.at) both.1 in
        inr (eqb-true n (begins w.member) both.0, (off w.removes it.0, it.1))) (or_parts (ahead n) ((n == begins w.member) && comes) on)

    behind_ahead : (j : ℕ) → ahead st.at ≡ true → behind ≡ Some j → ahead j ≡ true
    behind_ahead j on is =
        ⊎_elim (λ (lead : next_of m st.at ≡ Some (begins w.member)). closed (begins w.member) j (closed st.at (begins w.member) on lead) (own m mem d new p w st k ∙ is))
        (λ (past : next_of m st.at ≡ behind). closed st.at j on (past ∙ is)) (before_by w.removes refl)

    at_leads : (j : ℕ) → ahead st.at ≡ true → next_of mem st.at ≡ Some j → (b : Bool) → w.removes ≡ b → ahead_then j ≡ true
    at_leads j on is false adds =
        subst (λ (i : ℕ). ahead_then i ≡ true) (same_Some (begins w.member) j (sym (here (are_kept st.at on) ∙ value_false m mem d new p w st k adds) ∙ is)) (name_ahead adds on)
    at_leads j on is true removes = still_ahead j (behind_ahead j on (sym (here (are_kept st.at on) ∙ value_true m mem d new p w st k removes) ∙ is))

    pub closed_then : (n j : ℕ) → ahead_then n ≡ true → next_of mem n ≡ Some j → ahead_then j ≡ true
    closed_then n j on is =
        ⊎_elim (λ (old : ahead n ≡ true).
        ⊎_elim (λ (same : n ≡ st.at). at_leads j (subst (λ (i : ℕ). ahead i ≡ true) same old) (ap (next_of mem) (sym same) ∙ is) w.removes refl)
        (λ (differs : n ≢ st.at). still_ahead j (closed n j old (sym (links n (are_kept n old) differs) ∙ is))) (cases_eq n st.at))
        (λ (it : (n ≡ begins w.member) × ((w.removes ≡ false) × (ahead st.at ≡ true))).
        still_ahead j (behind_ahead j it.1.1 (sym (own_link ∙ own m mem d new p w st k) ∙ (ap (next_of mem) (sym it.0) ∙ is)))) (either_ahead n on)
