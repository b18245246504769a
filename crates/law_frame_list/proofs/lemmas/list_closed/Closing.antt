-- Where the words stand for a frame list, each link leads to a member of its frame, or is the end.
use Rattle.std.proofs.Common.{◌≡◌, ◌≢◌, ℕ, zero, suc, ◌/◌, ◌*◌, ◌<◌, Bool, true, false, List, [], ◌∷◌, Option, Some, None, if◌then◌else◌, ap, refl, sym, subst, ◌∙◌, arith}
use Rattle.std.specs.List.{AllByRecursion, list_any}
use Rattle.std.proofs.lemmas.Bool.{false≢true, eqb-true}
use Rattle.law_frame_words.proofs.Common.{either_all}
use Rattle.law_common.proofs.Booleans.{later}
use Rattle.word_mem.specs.Memory.{Mem, word_at}
use Rattle.drv_chains.specs.declared.members.Member.{Member}
use Rattle.drv_chains.specs.declared.members.Predecessor.{Predecessor}
use Rattle.drv_chains.specs.declared.members.Predecessor.TheVariants.{Element, After}
use Rattle.drv_chains.specs.Chains.{Schedule, id_of, is_the, chain, successor}
use Rattle.drv_chains.specs.Stores.{is_word, is_made}
use Rattle.drv_chains.proofs.Following.{first_ones}
use Rattle.drv_members.specs.Members.{IsKept, IsMember, is_linked, without_member}
use Rattle.drv_members.proofs.Keeping.{keeps_without}
use Rattle.drv_periodic.specs.declared.work.Work.{Work}
use Rattle.drv_periodic.specs.Periodic.{link_to, address_of, words_of, value_of}
use Rattle.drv_table.specs.DriverContent.{DriverContent}
use Rattle.claims_driver.specs.FrameWords.{Leads, is_at, old_of, made_of, Begun, StandsBy, HasMember, ListStands}
use Rattle.law_frame_words.specs.frame_words.InWords.{IsSpread, new_of, shown}
use Rattle.law_frame_words.proofs.lemmas.frame_words.Decoded.{IsWordOf, same_among}
use Rattle.law_frame_words.proofs.lemmas.frame_words.InChains.{words_in}
use Rattle.law_frame_words.proofs.lemmas.frame_words.Steps.{frames_while_under_way}
use Rattle.law_frame_list.specs.list_closed.Closed.{IsInFrame, IsNext, LeadsInto, ListIsClosed, MembersAreClosed, link_met, MeetsMembersAlone, HaveFrames}
use Rattle.law_frame_list.proofs.lemmas.list_closed.Chained.{chain_in_frame, fewer_in_frame, in_chain, still_linked, successor_is, same_successor, other_words, none_among, first_frame_is, member_of_kept}

-- ---- along one chain

first_led : (s : Schedule) (f list : ℕ) (word : ℕ → ℕ) (p : Predecessor) (ms : List Member) → AllByRecursion (IsInFrame s f) ms → Leads list word p ms → LeadsInto s f (word (address_of list p))
unfolding Leads
first_led s f list word p [] all led = record { next = None; stands = tt; word = led }
first_led s f list word p (m ∷ ms) all led = record { next = Some m; stands = all.0; word = led.0 }

here_or_later : (s : Schedule) (f list : ℕ) (word : ℕ → ℕ) (m x : Member) (b : Bool) → is_the m x ≡ b → LeadsInto s f (word (address_of list (After x))) → (b ≡ false → LeadsInto s f (word (address_of list (After m))))
    → LeadsInto s f (word (address_of list (After m)))
here_or_later s f list word m x true is here behind = subst (λ (n : ℕ). LeadsInto s f (word (n / 32 * 32))) (eqb-true (id_of x) (id_of m) is) here
here_or_later s f list word m x false is here behind = behind refl

own_led : (s : Schedule) (f list : ℕ) (word : ℕ → ℕ) (m : Member) (p : Predecessor) (ms : List Member) → list_any (is_the m) ms ≡ true → AllByRecursion (IsInFrame s f) ms → Leads list word p ms
    → LeadsInto s f (word (address_of list (After m)))
unfolding Leads
own_led s f list word m p [] any all led = absurd (false≢true any)
own_led s f list word m p (x ∷ xs) any all led =
    here_or_later s f list word m x (is_the m x) refl (first_led s f list word (After x) xs all.1 led.1)
    (λ other. own_led s f list word m (After x) xs (later (is_the m x) (list_any (is_the m) xs) any other) all.1 led.1)

-- ---- while a member is linked or unlinked

either_any : (p : Member → Bool) (xs ys : List Member) (b : Bool) → list_any p xs ≡ true → list_any p ys ≡ true → list_any p (if b then xs else ys) ≡ true
either_any p xs ys true one two = one
either_any p xs ys false one two = two

old_all : (s : Schedule) (m : Member) (f : ℕ) (b : Bool) → IsKept s → AllByRecursion (IsInFrame s f) (chain (if b then s else without_member s m) f)
old_all s m f true kept = chain_in_frame s f kept
old_all s m f false kept = fewer_in_frame s m f kept

new_all : (s : Schedule) (m : Member) (f : ℕ) (b : Bool) → IsKept s → AllByRecursion (IsInFrame s f) (chain (if b then without_member s m else s) f)
new_all s m f true kept = fewer_in_frame s m f kept
new_all s m f false kept = chain_in_frame s f kept

shown_all : (s : Schedule) (w : Work) (f : ℕ) → IsKept s → AllByRecursion (IsInFrame s f) (shown s w f)
shown_all s w f kept =
    either_all (IsInFrame s f) (chain (new_of s w) f) (chain (old_of s w) f) (is_made s w.member (made_of s w) f) (new_all s w.member f w.removes kept) (old_all s w.member f w.removes kept)

old_any : (s : Schedule) (m x : Member) (f : ℕ) (b : Bool) → IsKept s → is_the m x ≡ false → IsInFrame s f x → list_any (is_the x) (chain (if b then s else without_member s m) f) ≡ true
old_any s m x f true kept other here = in_chain s f x kept here
old_any s m x f false kept other here = in_chain (without_member s m) f x (keeps_without s m kept) (still_linked s m x other here.0, here.1)

new_any : (s : Schedule) (m x : Member) (f : ℕ) (b : Bool) → IsKept s → is_the m x ≡ false → IsInFrame s f x → list_any (is_the x) (chain (if b then without_member s m else s) f) ≡ true
new_any s m x f true kept other here = in_chain (without_member s m) f x (keeps_without s m kept) (still_linked s m x other here.0, here.1)
new_any s m x f false kept other here = in_chain s f x kept here

shown_any : (s : Schedule) (w : Work) (x : Member) (f : ℕ) → IsKept s → is_the w.member x ≡ false → IsInFrame s f x → list_any (is_the x) (shown s w f) ≡ true
shown_any s w x f kept other here =
    either_any (is_the x) (chain (new_of s w) f) (chain (old_of s w) f) (is_made s w.member (made_of s w) f)
    (new_any s w.member x f w.removes kept other here) (old_any s w.member x f w.removes kept other here)

-- its own link is as it was: it leads to the one behind it
own_kept : (list : ℕ) (s : Schedule) (w : Work) (word : ℕ → ℕ) → IsKept s → IsSpread list s → is_linked s w.member ≡ true → (k : Begun list s w word) → word (address_of list (After w.member)) ≡ k.before (address_of list (After w.member))
own_kept list s w word kept spread linked k =
    let at : ℕ = address_of list (After w.member) in
    let ps : List Predecessor = made_of s w in
    let none : list_any (is_at list at) ps ≡ false
    = same_among list s ps (After w.member) spread (first_ones (IsWordOf s) w.made (words_of s w) (words_in s w.member kept)) linked
    ∙ none_among ps (After w.member) (first_ones (λ v. is_word v (After w.member) ≡ false) w.made (words_of s w) (other_words s w.member)) in
    k.since at ∙ ap (λ (b : Bool). if b then value_of s w else k.before at) none

own_closed : (list : ℕ) (s : Schedule) (w : Work) (word : ℕ → ℕ) (f : ℕ) → IsKept s → IsSpread list s → IsMember w.member → Begun list s w word → IsInFrame s f w.member → LeadsInto s f (word (address_of list (After w.member)))
own_closed list s w word f kept spread is k here = record {
  next = successor s w.member f;
  stands = successor_is s w.member f kept;
  word = own_kept list s w word kept spread here.0 k ∙ k.own ∙ ap link_to (same_successor s w.member f kept is here);
}

begun_closed : (list : ℕ) (s : Schedule) (w : Work) (word : ℕ → ℕ) (f : ℕ) (x : Member) (b : Bool) → is_the w.member x ≡ b → IsKept s → IsSpread list s → IsMember w.member → is_linked s w.member ≡ true → Begun list s w word → f < 1024 → IsInFrame s f x
    → LeadsInto s f (word (address_of list (After x)))
begun_closed list s w word f x true same kept spread is linked k below here =
    let e : x ≡ w.member = spread.once x w.member here.0 linked (ap (λ (n : ℕ). n / 32) (eqb-true (id_of x) (id_of w.member) same)) in
    subst (λ (y : Member). LeadsInto s f (word (address_of list (After y)))) (sym e) (own_closed list s w word f kept spread is k (subst (IsInFrame s f) e here))
begun_closed list s w word f x false other kept spread is linked k below here =
    own_led s f list word x (Element f) (shown s w f) (shown_any s w x f kept other here) (shown_all s w f kept) (frames_while_under_way list s w word f kept spread is linked k below)

-- ---- each word

element_closed : (list : ℕ) (s : Schedule) (o : Option Work) (word : ℕ → ℕ) (f : ℕ) → IsKept s → IsSpread list s → HasMember s o → StandsBy list s o word → f < 1024 → LeadsInto s f (word (address_of list (Element f)))
element_closed list s None word f kept spread member stands below = first_led s f list word (Element f) (chain s f) (chain_in_frame s f kept) (stands f below)
element_closed list s (Some w) word f kept spread member stands below =
    first_led s f list word (Element f) (shown s w f) (shown_all s w f kept) (frames_while_under_way list s w word f kept spread member.0 member.1 stands below)

member_closed : (list : ℕ) (s : Schedule) (o : Option Work) (word : ℕ → ℕ) (f : ℕ) (x : Member) → IsKept s → IsSpread list s → HasMember s o → StandsBy list s o word → f < 1024 → IsInFrame s f x → LeadsInto s f (word (address_of list (After x)))
member_closed list s None word f x kept spread member stands below here =
    own_led s f list word x (Element f) (chain s f) (in_chain s f x kept here) (chain_in_frame s f kept) (stands f below)
member_closed list s (Some w) word f x kept spread member stands below here =
    begun_closed list s w word f x (is_the w.member x) refl kept spread member.0 member.1 stands below here

pub elements_lead_to_members : (m : Mem) (d : DriverContent) → ListStands m d → IsSpread d.periodic.list.list d.periodic.list.members.schedule → ListIsClosed m d
elements_lead_to_members m d stands spread f below =
    element_closed d.periodic.list.list d.periodic.list.members.schedule d.periodic.list.work (word_at m) f stands.order.kept spread stands.order.member stands.words below

pub members_lead_to_members : (m : Mem) (d : DriverContent) → ListStands m d → IsSpread d.periodic.list.list d.periodic.list.members.schedule → MembersAreClosed m d
members_lead_to_members m d stands spread f x below here =
    member_closed d.periodic.list.list d.periodic.list.members.schedule d.periodic.list.work (word_at m) f x stands.order.kept spread stands.order.member stands.words below here

-- ---- following the links

goes_on : (s : Schedule) (f list n : ℕ) (word : ℕ → ℕ) (o : Option Member) → ((x : Member) → IsInFrame s f x → LeadsInto s f (word (address_of list (After x)))) → IsNext s f o → n ≡ link_to o → n ≢ 1 → LeadsInto s f (word (n / 32 * 32))
goes_on s f list n word None closed stands is more = absurd (more is)
goes_on s f list n word (Some x) closed stands is more = subst (λ (a : ℕ). LeadsInto s f (word (a / 32 * 32))) (sym is) (closed x stands)

met_closed : (s : Schedule) (f list at : ℕ) (word : ℕ → ℕ) (k : ℕ) → ((x : Member) → IsInFrame s f x → LeadsInto s f (word (address_of list (After x)))) → LeadsInto s f (word at) → ((j : ℕ) → j < k → link_met word at j ≢ 1) → LeadsInto s f (link_met word at k)
unfolding link_met
met_closed s f list at word zero closed first more = first
met_closed s f list at word (suc k) closed first more =
    let before : LeadsInto s f (link_met word at k) = met_closed s f list at word k closed first (λ j less. more j (omega (arith, less))) in
    goes_on s f list (link_met word at k) word before.next closed before.stands before.word (more k (omega arith))

pub a_walk_meets_members_alone : (m : Mem) (d : DriverContent) → ListStands m d → IsSpread d.periodic.list.list d.periodic.list.members.schedule → MeetsMembersAlone m d
a_walk_meets_members_alone m d stands spread f k below more =
    met_closed d.periodic.list.members.schedule f d.periodic.list.list (address_of d.periodic.list.list (Element f)) (word_at m) k (λ x here. members_lead_to_members m d stands spread f x below here) (elements_lead_to_members m d stands spread f below) more

-- ---- each member has a frame

pub members_stand_in_their_first_frame : (m : Mem) (d : DriverContent) → ListStands m d → HaveFrames d
members_stand_in_their_first_frame m d stands x linked =
    let first = first_frame_is x (member_of_kept d.periodic.list.members.schedule x stands.order.kept linked) in
    (first.0, (linked, first.1))
