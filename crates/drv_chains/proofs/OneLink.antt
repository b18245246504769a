-- A queue head has one successor in all its frames.
use Rattle.std.proofs.Common.{◌≡◌, ℕ, ◌%◌, ◌+◌, Bool, true, false, List, [], ◌∷◌, ◌++◌, map, nat_eq, if◌then◌else◌, refl, ap, sym, ◌∙◌, subst}
use Rattle.std.specs.Prelude.{filter}
use Rattle.std.proofs.lemmas.Bool.{eqb-true}
use Rattle.drv_chains.specs.declared.members.Descriptor.{Descriptor}
use Rattle.drv_chains.specs.declared.members.QueueHead.{QueueHead}
use Rattle.drv_chains.specs.declared.members.Member.TheVariants.{Each}
use Rattle.drv_chains.specs.Chains.{of_lists, periods, is_period, frame_period, is_active, at_place, has_name, first_of, successor}
use Rattle.drv_chains.proofs.Words.{Falls, queues_at, behind_in, all_in, periods_fall}
use Rattle.drv_chains.proofs.Beside.{next_is}

same_queues : (qs : List QueueHead) (p f g : ℕ) → f % frame_period p ≡ g % frame_period p → queues_at qs p f ≡ queues_at qs p g
same_queues qs p f g e = ap (λ x. map Each (filter (at_place p x) qs)) e

all_same : (qs : List QueueHead) (f g period : ℕ) (ps : List ℕ) → Falls period ps → f % frame_period period ≡ g % frame_period period → all_in qs f ps ≡ all_in qs g ps
unfolding all_in Falls
all_same qs f g period [] falls e = refl
all_same qs f g period (p ∷ ps) falls e =
    let h = falls.0 f g e in
    ap (λ x. x ++ all_in qs f ps) (same_queues qs p f g h) ∙ ap (λ x. queues_at qs p g ++ x) (all_same qs f g p ps falls.1.1 h)

behind_or : (xs ys : List QueueHead) (q : QueueHead) (f g p : ℕ) (ps : List ℕ) (b : Bool) → nat_eq q.period p ≡ b → Falls p ps → f % frame_period q.period ≡ g % frame_period q.period → (b ≡ false → behind_in xs ys q f ps ≡ behind_in xs ys q g ps)
    → (if b then queues_at ys p f ++ all_in (xs ++ ys) f ps else behind_in xs ys q f ps) ≡ (if b then queues_at ys p g ++ all_in (xs ++ ys) g ps else behind_in xs ys q g ps)
behind_or xs ys q f g p ps true e falls h k =
    let s : f % frame_period p ≡ g % frame_period p = subst (λ x. f % frame_period x ≡ g % frame_period x) (eqb-true q.period p e) h in
    ap (λ x. x ++ all_in (xs ++ ys) f ps) (same_queues ys p f g s) ∙ ap (λ x. queues_at ys p g ++ x) (all_same (xs ++ ys) f g p ps falls s)
behind_or xs ys q f g p ps false e falls h k = k refl

behind_same : (xs ys : List QueueHead) (q : QueueHead) (f g period : ℕ) (ps : List ℕ) → Falls period ps → f % frame_period q.period ≡ g % frame_period q.period → behind_in xs ys q f ps ≡ behind_in xs ys q g ps
unfolding behind_in Falls
behind_same xs ys q f g period [] falls h = refl
behind_same xs ys q f g period (p ∷ ps) falls h = behind_or xs ys q f g p ps (nat_eq q.period p) refl falls.1.1 h (λ _. behind_same xs ys q f g p ps falls.1.1 h)

same_phase : (q : QueueHead) (f g : ℕ) → is_active f q ≡ true → is_active g q ≡ true → f % frame_period q.period ≡ g % frame_period q.period
same_phase q f g a b = sym (eqb-true q.phase (f % frame_period q.period) a) ∙ eqb-true q.phase (g % frame_period q.period) b

pub one_link : (ds : List Descriptor) (xs ys : List QueueHead) (q : QueueHead) (f g : ℕ) → has_name (of_lists ds (xs ++ ys)) q.id ≡ false → is_period q.period ≡ true → is_active f q ≡ true → is_active g q ≡ true
    → successor (of_lists ds (xs ++ q ∷ ys)) (Each q) f ≡ successor (of_lists ds (xs ++ q ∷ ys)) (Each q) g
one_link ds xs ys q f g named here a b =
    next_is ds xs ys q f named here a ∙ ap (λ x. first_of x) (behind_same xs ys q f g 16384 periods periods_fall (same_phase q f g a b)) ∙ sym (next_is ds xs ys q g named here b)
