-- The next store of the frame list, by what each link is before it and after it: where the links led down they do so again.
use Rattle.std.proofs.Common.{◌≡◌, ◌≢◌, ℕ, ◌+◌, ◌*◌, ◌/◌, ◌<◌, ◌≤◌, ◌⊎◌, Bool, true, false, nat_eq, inl, inr, Option, Some, None, if◌then◌else◌, ⊎_elim, ap, refl, sym, subst, ◌∙◌, arith}
use Rattle.std.proofs.lemmas.Option.{same_Some}
use Rattle.word_mem.specs.Memory.{Mem, word_at}
use Rattle.link_words.specs.declared.kinds.Link.{Link}
use Rattle.link_words.specs.declared.kinds.Link.TheVariants as links
use Rattle.link_words.specs.Links.{link_read}
use Rattle.drv_chains.specs.declared.members.Member.{Member}
use Rattle.drv_chains.specs.declared.members.Member.TheVariants.{Once, Each}
use Rattle.drv_chains.specs.declared.members.Predecessor.{Predecessor}
use Rattle.drv_chains.specs.declared.members.Predecessor.TheVariants.{Element, After}
use Rattle.drv_chains.specs.Stores.{is_word, is_same}
use Rattle.drv_periodic.specs.declared.work.Work.{Work}
use Rattle.drv_periodic.specs.declared.work.Store.{Store}
use Rattle.drv_table.specs.DriverContent.{DriverContent}
use Rattle.law_frame_words.proofs.lemmas.frame_words.Decoded.{IsWordOf}
use Rattle.law_frame_list.specs.list_closed.Closed.{IsInFrame, IsNext, structure}
use Rattle.law_frame_list.proofs.lemmas.list_closed.Structures.{links_tell_structures}
use Rattle.drv_periodic_table.specs.Periodic.{PeriodicContent, note_at}
use Rattle.claims_driver.specs.Unlinked.{led_in, led, is_led, led_by}
use Rattle.law_descriptors.specs.RowLaws.{HasFrames}
use Rattle.law_microframes.specs.visits.Splices.{passed, IsSplice}
use Rattle.law_microframes.proofs.lemmas.visits.SpliceWords.{next_store_splices}
use Rattle.drv_chains.specs.Chains.{Schedule, id_of, is_the, stands_in, has_word, successor}
use Rattle.drv_members.specs.Members.{Members, IsMember, is_linked, without_member, with_schedule, frame_of}
use Rattle.drv_periodic.specs.Periodic.{Periodic, link_to, address_of, words_of, value_of, store_at, store_of, is_more, next_store, after_work, after_store}
use Rattle.law_frame_words.specs.frame_words.InWords.{IsSpread}
use Rattle.claims_driver.specs.FrameWords.{IsInOrder, StandsBy, StandFor, Begun, HasMember}
use Rattle.law_frame_words.proofs.lemmas.frame_words.InChains.{fewer_in, words_in}
use Rattle.law_frame_list.proofs.lemmas.list_closed.Chained.{successor_is, same_successor, first_frame_is, member_of_kept}
use Rattle.std.specs.Prelude.{◌||◌, nat_lt, slice_get, option_map, option_and_then}
use Rattle.std.proofs.lemmas.Bool.{true≢false, eq-eqb, eqb-true, ne_eqb, ltb-true, cases_eq}
use Rattle.law_frame_words.proofs.Common.{same_itself}
use Rattle.law_descriptors.proofs.Common.{others_led}
use Rattle.law_common.proofs.Lists.{nth_all}
use Rattle.law_common.proofs.Numbers.{same_blocks}
use Rattle.law_frames.specs.Met.{Kind, AQueue, AnItd, ASitd, LeadsTo}
use Rattle.law_descriptors.specs.Meeting.{kind_of, standing}
use Rattle.law_descriptors.proofs.Finding.{IsMemberAt}
use Rattle.law_descriptors.proofs.Leading.{led_linked, elements_lead_to_standing}
use Rattle.law_microframes.specs.visits.Ranks.{name_of, next_of, height_to, IsRanked}
use Rattle.claims_world.specs.Visits.{begins}
use Rattle.law_microframes.proofs.lemmas.visits.DriverGoesOn.{IsListSpread, linked_stands, member_stands}

-- ---- a store of the list

-- the driver after it has the list that the store makes, but for what begins with it
pub record ListStep (m mem : Mem) (d new : DriverContent) (p : Periodic) (w : Work) (st : Store) : Type 0 where
  pub list : p.list ≡ d.periodic.list.list
  pub members : p.members ≡ d.periodic.list.members
  pub order : IsInOrder p
  pub words : StandFor p (word_at m)
  pub under : p.work ≡ Some w
  pub next : next_store p ≡ Some st
  pub before : led_in p ≡ led d
  pub after : led new ≡ led_in (after_store p)
  pub frames : HasFrames m d
  pub frames_then : HasFrames mem new
  pub work : w.removes ≡ false → d.periodic.list.work ≡ Some w
  pub same : (x : Work) → d.periodic.list.work ≡ Some x → x ≡ w
  -- what goes on goes on with the same list
  pub goes : (x : Work) → (after_store p).work ≡ Some x → new.periodic.list ≡ after_store p
  pub half : (x : Work) → new.periodic.list.work ≡ Some x → x.removes ≡ false → 1 ≤ x.made → (x.member ≡ w.member) × (w.removes ≡ false)

-- ---- its word

pub record IsNextWord (p : Periodic) (w : Work) (st : Store) : Type 0 where
  pub word : Predecessor
  pub here : slice_get (words_of p.members.schedule w) w.made ≡ Some word
  pub is : store_at p.list word (value_of p.members.schedule w) ≡ st

word_by : (p : Periodic) (w : Work) (st : Store) (o : Option Predecessor) → slice_get (words_of p.members.schedule w) w.made ≡ o
    → option_map (λ word. store_at p.list word (value_of p.members.schedule w)) o ≡ Some st → IsNextWord p w st
word_by p w st None here is = absurd cc
word_by p w st (Some word) here is = record { word = word; here = here; is = same_Some (store_at p.list word (value_of p.members.schedule w)) st is }

next_word : (p : Periodic) (w : Work) (st : Store) → p.work ≡ Some w → next_store p ≡ Some st → IsNextWord p w st
next_word p w st under is =
    word_by p w st (slice_get (words_of p.members.schedule w) w.made) refl
    (sym (ap (λ (o : Option Work). option_and_then (λ v. store_of p.list p.members.schedule v) o) under) ∙ is)

-- ---- the link word of a member, and that of the end

abbrev pub next_name : Option Member → Option ℕ
next_name None = None
next_name (Some x) = Some (begins x)

structure_name : (q : PeriodicContent) (o : Option Member) → name_of (structure q o) ≡ next_name o
structure_name q None = refl
structure_name q (Some (Each x)) = refl
structure_name q (Some (Once k)) = by (note_at q.notes (k.id / 32)).split
  where
    by : (b : Bool) → name_of (if b then links.Sitd (32 * (k.id / 32)) else links.Itd (32 * (k.id / 32))) ≡ Some (begins (Once k))
    by true = refl
    by false = refl

-- what a link leads to is met
pub record IsMetThere (met : ℕ → Option Kind) (j : ℕ) : Type 0 where
  pub kind : Kind
  pub is : met j ≡ Some kind

pub leads_met : (met : ℕ → Option Kind) (l : Link) (j : ℕ) → LeadsTo met l → name_of l ≡ Some j → IsMetThere met j
leads_met met links.End j leads is = absurd (cc)
leads_met met (links.Itd a) j leads is = record { kind = AnItd; is = ap met (sym (same_Some a j is)) ∙ leads }
leads_met met (links.Qh a) j leads is = record { kind = AQueue; is = ap met (sym (same_Some a j is)) ∙ leads }
leads_met met (links.Sitd a) j leads is = record { kind = ASitd; is = ap met (sym (same_Some a j is)) ∙ leads }
leads_met met (links.Fstn a) j leads is = absurd leads

-- ---- members

first_word : (b : ℕ) → b * 32 ≡ 32 * b
first_word b = omega arith

after_fewer : (p : Periodic) (x : Member) (o : Option Work) → is_linked (led_in (after_work p o)) x ≡ true → is_linked p.members.schedule x ≡ true
after_fewer p x None on = led_linked p.members.schedule p.work x on
after_fewer p x (Some w) on = by (is_more p.members.schedule w) w.removes on
  where
    by : (b a : Bool)
        → is_linked (led_in (if b then record p { work = Some (record w { made = w.made + 1 }) } else record { list = p.list; members = if a then with_schedule p.members (without_member p.members.schedule w.member) else p.members; work = None })) x ≡ true
        → is_linked p.members.schedule x ≡ true
    by true a on = led_linked p.members.schedule (Some (record w { made = w.made + 1 })) x on
    by false true on = fewer_in p.members.schedule w.member x on
    by false false on = on

-- where the store goes
pub data GoesAt (p : Periodic) (w : Work) (st : Store) (v : Predecessor) : Type 0 where
  at_element : (i : ℕ) → i < 1024 → st.at ≡ address_of p.list (Element i) → v ≡ Element i → GoesAt p w st v
  at_member : (x : Member) → is_linked p.members.schedule x ≡ true → (x ≡ w.member → ⊥) → st.at ≡ begins x → v ≡ After x → GoesAt p w st v

module _ (m mem : Mem) (d new : DriverContent) (p : Periodic) (w : Work) (st : Store) (k : ListStep m mem d new p w st) where
  abbrev s : Schedule
  s = p.members.schedule

  abbrev name : ℕ
  name = begins w.member

  abbrev o : Option Member
  o = successor p.members.schedule w.member (frame_of w.member)

  pub its : IsMember w.member × (is_linked p.members.schedule w.member ≡ true)
  its = subst (HasMember p.members.schedule) k.under k.order.member

  pub schedule : p.members.schedule ≡ d.periodic.list.members.schedule
  schedule = ap (λ (ms : Members). ms.schedule) k.members

  pub spread : IsSpread p.list p.members.schedule
  spread = subst (λ (l : ℕ). IsSpread l p.members.schedule) (sym k.list) (subst (IsSpread d.periodic.list.list) (sym schedule) k.frames.spread)

  pub g : IsNextWord p w st
  g = next_word p w st k.under k.next

  begun : Begun p.list p.members.schedule w (word_at m)
  begun = subst (λ (t : Option Work). StandsBy p.list p.members.schedule t (word_at m)) k.under k.words

  sp : IsSplice p.list p.members.schedule w (word_at m) g.word
  sp = next_store_splices p.list p.members.schedule w (word_at m) g.word k.order.kept spread its.0 its.1 begun g.here

  at : st.at ≡ address_of p.list g.word
  at = ap (λ (x : Store). x.at) (sym g.is)

  value : st.value ≡ value_of p.members.schedule w
  value = ap (λ (x : Store). x.value) (sym g.is)

  goes_by : (v : Predecessor) → g.word ≡ v → IsWordOf p.members.schedule v → is_word v (After w.member) ≡ false → GoesAt p w st g.word
  goes_by (Element i) is low other = at_element i low (at ∙ ap (address_of p.list) is) is
  goes_by (After x) is on other =
      at_member x on (λ same. true≢false (sym (same_itself w.member) ∙ ap (λ (y : Member). is_same y w.member) (sym same) ∙ other))
      (at ∙ ap (address_of p.list) is ∙ first_word (id_of x / 32)) is

  pub goes : GoesAt p w st g.word
  goes =
      goes_by g.word refl (nth_all (IsWordOf p.members.schedule) (words_of p.members.schedule w) w.made g.word (words_in p.members.schedule w.member k.order.kept) g.here) sp.other

  pub one_name : (x y : Member) → is_linked p.members.schedule x ≡ true → is_linked p.members.schedule y ≡ true → begins x ≡ begins y
      → x ≡ y
  one_name x y one two same = spread.once x y one two (same_blocks (id_of x / 32) (id_of y / 32) same)

  -- its own word is none that is stored
  pub name_away : ((i : ℕ) → i < 1024 → st.at ≡ address_of p.list (Element i) → ⊥) → name ≢ st.at
  name_away beside same = by goes
    where
      by : GoesAt p w st g.word → ⊥
      by (at_element i low at_i is) = beside i low at_i
      by (at_member x linked other at_x is) = other (sym (one_name w.member x its.1 linked (same ∙ at_x)))

  -- ---- the link words

  member_name : (x : Member) → is_linked p.members.schedule x ≡ true → name_of (link_read (id_of x)) ≡ Some (begins x)
  member_name x on =
      let on_d : is_linked d.periodic.list.members.schedule x ≡ true = ap (λ (t : Schedule). is_linked t x) (sym schedule) ∙ on in
      let first = first_frame_is x (member_of_kept d.periodic.list.members.schedule x k.frames.list.order.kept on_d) in
      ap name_of (links_tell_structures d k.frames.listed (frame_of x) (id_of x) (record { next = Some x; stands = (on_d, first.1); word = refl }))
      ∙ structure_name d.periodic (Some x)

  next_told : name_of (link_read (link_to o)) ≡ next_name o
  next_told =
      ap name_of (links_tell_structures d k.frames.listed (frame_of w.member) (link_to o)
      (record { next = o; stands = subst (λ (t : Schedule). IsNext t (frame_of w.member) o) schedule (successor_is p.members.schedule w.member (frame_of w.member) k.order.kept); word = refl }))
      ∙ structure_name d.periodic o

  pub own : next_of m name ≡ next_name o
  own =
      ap (λ (a : ℕ). name_of (link_read (word_at m a))) (sym (first_word (id_of w.member / 32)))
      ∙ ap (λ (v : ℕ). name_of (link_read v)) sp.own ∙ next_told

  pub value_false : w.removes ≡ false → name_of (link_read st.value) ≡ Some name
  value_false adds =
      ap (λ (v : ℕ). name_of (link_read v)) (value ∙ ap (λ (b : Bool). if b then link_to o else id_of w.member) adds) ∙ member_name w.member its.1

  pub value_true : w.removes ≡ true → name_of (link_read st.value) ≡ next_name o
  value_true removes = ap (λ (v : ℕ). name_of (link_read v)) (value ∙ ap (λ (b : Bool). if b then link_to o else id_of w.member) removes) ∙ next_told

  passed_false : w.removes ≡ false → name_of (link_read (passed p.members.schedule w)) ≡ next_name o
  passed_false adds = ap (λ (b : Bool). name_of (link_read (if b then id_of w.member else link_to o))) adds ∙ next_told

  passed_true : w.removes ≡ true → name_of (link_read (passed p.members.schedule w)) ≡ Some name
  passed_true removes = ap (λ (b : Bool). name_of (link_read (if b then id_of w.member else link_to o))) removes ∙ member_name w.member its.1

  -- what its word led to
  word_before : (v : ℕ) → word_at m (address_of p.list g.word) ≡ v → next_of m st.at ≡ name_of (link_read v)
  word_before v is = ap (λ (a : ℕ). name_of (link_read (word_at m a))) at ∙ ap (λ (v : ℕ). name_of (link_read v)) is

  pub before_false : w.removes ≡ false → (next_of m st.at ≡ Some name) ⊎ (next_of m st.at ≡ next_name o)
  before_false adds =
      ⊎_elim {C = (next_of m st.at ≡ Some name) ⊎ (next_of m st.at ≡ next_name o)}
      (λ (same : word_at m (address_of p.list g.word) ≡ value_of p.members.schedule w). inl (word_before _ same ∙ ap (λ (v : ℕ). name_of (link_read v)) (sym value) ∙ value_false adds))
      (λ (past : word_at m (address_of p.list g.word) ≡ passed p.members.schedule w). inr (word_before _ past ∙ passed_false adds)) sp.leads

  pub before_true : w.removes ≡ true → (next_of m st.at ≡ next_name o) ⊎ (next_of m st.at ≡ Some name)
  before_true removes =
      ⊎_elim {C = (next_of m st.at ≡ next_name o) ⊎ (next_of m st.at ≡ Some name)}
      (λ (same : word_at m (address_of p.list g.word) ≡ value_of p.members.schedule w). inl (word_before _ same ∙ ap (λ (v : ℕ). name_of (link_read v)) (sym value) ∙ value_true removes))
      (λ (past : word_at m (address_of p.list g.word) ≡ passed p.members.schedule w). inr (word_before _ past ∙ passed_true removes)) sp.leads

  before_first : w.removes ≡ false → w.made ≡ 0 → next_of m st.at ≡ next_name o
  before_first adds zero = word_before _ (sp.first zero) ∙ passed_false adds

  -- ---- who may be led to

  way_led : led d ≡ (if is_led w then p.members.schedule else without_member p.members.schedule w.member)
  way_led = sym k.before ∙ ap (led_by p.members.schedule) k.under

  pub all_led : is_led w ≡ true → led d ≡ p.members.schedule
  all_led on = way_led ∙ ap (λ (b : Bool). if b then p.members.schedule else without_member p.members.schedule w.member) on

  not_the : (x : Member) (b : Bool) → is_linked p.members.schedule x ≡ true → (x ≡ w.member → ⊥) → is_the w.member x ≡ b → b ≡ false
  not_the x false on other is = refl
  not_the x true on other is = absurd (other (spread.once x w.member on its.1 (ap (λ (n : ℕ). n / 32) (eqb-true (id_of x) (id_of w.member) is))))

  pub other_led : (x : Member) → is_linked p.members.schedule x ≡ true → (x ≡ w.member → ⊥) → is_linked (led d) x ≡ true
  other_led x on other =
      ap (λ (t : Schedule). is_linked t x) way_led ∙ others_led p.members.schedule w x (is_led w) (not_the x (is_the w.member x) on other refl) on

  pub then_linked : (x : Member) → is_linked (led new) x ≡ true → is_linked p.members.schedule x ≡ true
  then_linked x on = after_fewer p x p.work (ap (λ (t : Schedule). is_linked t x) (sym k.after) ∙ on)

  d_spread : IsListSpread d
  d_spread = k.frames.spread

  -- ---- the links that are kept

  module _ (kept : ℕ → Bool) (height : ℕ → ℕ) (who : ℕ → Member) (r : IsRanked m d kept height who) (links : (n : ℕ) → kept n ≡ true → n ≢ st.at → next_of mem n ≡ next_of m n)
      (here : kept st.at ≡ true → next_of mem st.at ≡ name_of (link_read st.value)) (beside : (i : ℕ) → i < 1024 → st.at ≡ address_of p.list (Element i) → kept st.at ≡ true → ⊥) where
    led_kept : (x : Member) → is_linked (led d) x ≡ true → kept (begins x) ≡ true
    led_kept x on = r.standing_are (begins x) (kind_of d.periodic x) (linked_stands d x d_spread on)

    -- the word that is stored is that of one that stands, where it is kept
    stored_member : (P : Type 0) → kept st.at ≡ true → ((x : Member) → is_linked (led d) x ≡ true → is_linked p.members.schedule x ≡ true → (x ≡ w.member → ⊥) → st.at ≡ begins x → g.word ≡ After x → P) → P
    stored_member P on by = by_word goes
      where
        by_word : GoesAt p w st g.word → P
        by_word (at_element i low at_i is) = absurd (beside i low at_i on)
        by_word (at_member x linked other at_x is) = by x (other_led x linked other) linked other at_x is

    apart : kept st.at ≡ true → st.at ≢ name
    apart on same = stored_member ⊥ on (λ x led linked other at_x is. other (one_name x w.member linked its.1 (sym at_x ∙ same)))

    -- what is stored where the new member, or the leaving one, is kept
    module _ (on_way : is_led w ≡ true) where
      pub name_kept : kept name ≡ true
      name_kept = led_kept w.member (ap (λ (t : Schedule). is_linked t w.member) (all_led on_way) ∙ its.1)

      made_some : (a : Bool) (n : ℕ) → a ≡ false → (a || nat_lt 0 n) ≡ true → 1 ≤ n
      made_some true n off on = absurd (true≢false off)
      made_some false n off on = ltb-true 0 n on

      name_apart : name ≢ st.at
      name_apart same = apart (subst (λ (n : ℕ). kept n ≡ true) same name_kept) (sym same)

      pub then_name : next_of mem name ≡ next_of m name
      then_name = links name name_kept name_apart

      at_false : w.removes ≡ false → kept st.at ≡ true → next_of mem st.at ≡ Some name
      at_false adds on = here on ∙ value_false adds

      at_true : w.removes ≡ true → kept st.at ≡ true → next_of mem st.at ≡ next_name o
      at_true removes on = here on ∙ value_true removes

      closed_at : (j : ℕ) → kept st.at ≡ true → next_of mem st.at ≡ Some j → (b : Bool) → w.removes ≡ b → kept j ≡ true
      closed_at j on is true removes = r.closed name j name_kept (own ∙ sym (at_true removes on) ∙ is)
      closed_at j on is false adds = subst (λ (n : ℕ). kept n ≡ true) (same_Some name j (sym (at_false adds on) ∙ is)) name_kept

      below_name : next_of m st.at ≡ Some name → kept st.at ≡ true → height name < height st.at
      below_name is on = subst (λ (q : Option ℕ). height_to height q < height st.at) is (r.falls st.at on)

      own_falls : height_to height (next_name o) < height name
      own_falls = subst (λ (q : Option ℕ). height_to height q < height name) own (r.falls name name_kept)

      falls_at : kept st.at ≡ true → (b : Bool) → w.removes ≡ b → height_to height (next_of mem st.at) < height st.at
      falls_at on true removes =
          subst (λ (q : Option ℕ). height_to height q < height st.at) (sym (at_true removes on))
          (⊎_elim (λ (same : next_of m st.at ≡ next_name o). subst (λ (q : Option ℕ). height_to height q < height st.at) same (r.falls st.at on))
          (λ (past : next_of m st.at ≡ Some name). let one = own_falls in let two = below_name past on in omega (arith, one, two)) (before_true removes))
      falls_at on false adds =
          subst (λ (q : Option ℕ). height_to height q < height st.at) (sym (at_false adds on))
          (⊎_elim (λ (same : next_of m st.at ≡ Some name). below_name same on)
          (λ (past : next_of m st.at ≡ next_name o).
          r.linking w (k.work adds) adds (made_some w.removes w.made adds on_way) st.at on (λ (same : st.at ≡ name). apart on same) (past ∙ sym own)) (before_false adds))

      shares_at : (j f : ℕ) → f < 1024 → kept st.at ≡ true → next_of mem st.at ≡ Some j → stands_in f (who st.at) ≡ true → (b : Bool) → w.removes ≡ b → stands_in f (who j) ≡ true
      shares_at j f below on is stands true removes =
          let last : next_name o ≡ Some j = sym (at_true removes on) ∙ is in
          ⊎_elim (λ (same : next_of m st.at ≡ next_name o). r.shares st.at j f below on (same ∙ last) stands)
          (λ (past : next_of m st.at ≡ Some name). r.shares name j f below name_kept (own ∙ last) (r.shares st.at name f below on past stands)) (before_true removes)
      shares_at j f below on is stands false adds =
          let same : name ≡ j = same_Some name j (sym (at_false adds on) ∙ is) in
          stored_member (stands_in f (who j) ≡ true) on
          (λ x led linked other at_x word_is.
          let there : stands_in f x ≡ true = ap (stands_in f) (sym (ap who at_x ∙ r.stand x led)) ∙ stands in
          ap (λ (n : ℕ). stands_in f (who n)) (sym same)
          ∙ ap (stands_in f) (r.stand w.member (ap (λ (t : Schedule). is_linked t w.member) (all_led on_way) ∙ its.1)) ∙ sp.serves f (ap (has_word f) word_is ∙ there))

      pub same_ranked : IsRanked mem new kept height who
      same_ranked = record {
        standing_are = λ n kind is. let x : IsMemberAt (led new) n = member_stands new n kind is in
            subst (λ (i : ℕ). kept i ≡ true) x.begins
            (led_kept x.member (ap (λ (t : Schedule). is_linked t x.member) (all_led on_way) ∙ then_linked x.member x.linked));
        closed = λ n j on is.
            ⊎_elim (λ (same : n ≡ st.at).
            closed_at j (subst (λ (i : ℕ). kept i ≡ true) same on) (ap (next_of mem) (sym same) ∙ is) w.removes refl)
            (λ (differs : n ≢ st.at). r.closed n j on (sym (links n on differs) ∙ is)) (cases_eq n st.at);
        falls = λ n on.
            ⊎_elim (λ (same : n ≡ st.at).
            subst (λ (i : ℕ). height_to height (next_of mem i) < height i) (sym same) (falls_at (subst (λ (i : ℕ). kept i ≡ true) same on) w.removes refl))
            (λ (differs : n ≢ st.at). subst (λ (q : Option ℕ). height_to height q < height n) (sym (links n on differs)) (r.falls n on)) (cases_eq n st.at);
        shares = λ n j f below on is stands.
            ⊎_elim (λ (same : n ≡ st.at).
            shares_at j f below (subst (λ (i : ℕ). kept i ≡ true) same on) (ap (next_of mem) (sym same) ∙ is) (ap (λ (i : ℕ). stands_in f (who i)) (sym same) ∙ stands) w.removes refl)
            (λ (differs : n ≢ st.at). r.shares n j f below on (sym (links n on differs) ∙ is) stands) (cases_eq n st.at);
        named = r.named;
        stand = λ x on. r.stand x (ap (λ (t : Schedule). is_linked t x) (all_led on_way) ∙ then_linked x on);
        linking = λ v is adds made n on other lead.
            (let h = k.half v is adds made in
            let one : begins v.member ≡ name = ap begins h.0 in
            let lead_name : next_of mem n ≡ next_of m name = lead ∙ ap (next_of mem) one ∙ then_name in
            ap_height one
            (⊎_elim (λ (same : n ≡ st.at).
            absurd (never (subst (λ (q : Option ℕ). height_to height q < height name)
            (sym lead_name ∙ ap (next_of mem) same ∙ at_false h.1 (subst (λ (i : ℕ). kept i ≡ true) same on)) (r.falls name name_kept))))
            (λ (differs : n ≢ st.at).
            r.linking w (k.work h.1) h.1 (made_some w.removes w.made h.1 on_way) n on (λ (same : n ≡ name). other (same ∙ sym one)) (sym (links n on differs) ∙ lead_name))
            (cases_eq n st.at)));
      }
        where
          ap_height : {a b n : ℕ} → a ≡ b → height b < height n → height a < height n
          ap_height {a} {b} {n} same less = subst (λ (i : ℕ). height i < height n) (sym same) less

          never : height name < height name → ⊥
          never less = omega (arith, less)

    -- ---- a member comes by its first store

    module _ (adds : w.removes ≡ false) (zero_made : w.made ≡ 0) (fresh : kept name ≡ false) (own_link : next_of mem name ≡ next_of m name) where
      abbrev pub kept_then : ℕ → Bool
      kept_then n = nat_eq n name || kept n

      abbrev pub height_then : ℕ → ℕ
      height_then n = if nat_eq n name then 2 * height_to height (next_name o) + 1 else 2 * height n

      abbrev pub who_then : ℕ → Member
      who_then n = if nat_eq n name then w.member else who n

      other_name : (n : ℕ) → kept n ≡ true → n ≢ name
      other_name n on same = true≢false (sym on ∙ ap kept same ∙ fresh)

      is_other : (n : ℕ) → n ≢ name → nat_eq n name ≡ false
      is_other n other = ne_eqb n name other

      is_name : nat_eq name name ≡ true
      is_name = eq-eqb name name refl

      pub still_kept : (n : ℕ) → kept n ≡ true → kept_then n ≡ true
      still_kept n on = ap (λ (b : Bool). b || kept n) (is_other n (other_name n on)) ∙ on

      pub name_is_kept : kept_then name ≡ true
      name_is_kept = ap (λ (b : Bool). b || kept name) is_name

      was_kept : (n : ℕ) → kept_then n ≡ true → n ≢ name → kept n ≡ true
      was_kept n on other = sym (ap (λ (b : Bool). b || kept n) (is_other n other)) ∙ on

      pub old_height : (n : ℕ) → n ≢ name → height_then n ≡ 2 * height n
      old_height n other = ap (λ (b : Bool). if b then 2 * height_to height (next_name o) + 1 else 2 * height n) (is_other n other)

      new_height : height_then name ≡ 2 * height_to height (next_name o) + 1
      new_height = ap (λ (b : Bool). if b then 2 * height_to height (next_name o) + 1 else 2 * height name) is_name

      pub old_who : (n : ℕ) → n ≢ name → who_then n ≡ who n
      old_who n other = ap (λ (b : Bool). if b then w.member else who n) (is_other n other)

      new_who : who_then name ≡ w.member
      new_who = ap (λ (b : Bool). if b then w.member else who name) is_name

      doubled : (q : Option ℕ) → ((j : ℕ) → q ≡ Some j → j ≢ name) → height_to height_then q ≡ 2 * height_to height q
      doubled None other = refl
      doubled (Some j) other = old_height j (other j refl)

      -- the one behind it is kept
      element_target : (i j : ℕ) → i < 1024 → g.word ≡ Element i → next_name o ≡ Some j → kept j ≡ true
      element_target i j low is lead =
          let leads : LeadsTo (standing d) (link_read (word_at m (address_of d.periodic.list.list (Element i)))) = elements_lead_to_standing m d i k.frames low in
          let same : word_at m (address_of d.periodic.list.list (Element i)) ≡ word_at m st.at
          = ap (word_at m) (ap (λ (l : ℕ). address_of l (Element i)) (sym k.list) ∙ sym (ap (address_of p.list) is) ∙ sym at) in
          let there = leads_met (standing d) (link_read (word_at m st.at)) j (subst (λ (v : ℕ). LeadsTo (standing d) (link_read v)) same leads) (before_first adds zero_made ∙ lead) in
          r.standing_are j there.kind there.is

      member_target : (x : Member) (j : ℕ) → is_linked p.members.schedule x ≡ true → (x ≡ w.member → ⊥) → st.at ≡ begins x → next_name o ≡ Some j → kept j ≡ true
      member_target x j linked other at_x lead =
          r.closed st.at j (subst (λ (i : ℕ). kept i ≡ true) (sym at_x) (led_kept x (other_led x linked other))) (before_first adds zero_made ∙ lead)

      target_kept : (j : ℕ) → next_name o ≡ Some j → kept j ≡ true
      target_kept j lead = by goes
        where
          by : GoesAt p w st g.word → kept j ≡ true
          by (at_element i low at_i is) = element_target i j low is lead
          by (at_member x linked other at_x is) = member_target x j linked other at_x lead

      target_other : (j : ℕ) → next_name o ≡ Some j → j ≢ name
      target_other j lead = other_name j (target_kept j lead)

      name_leads : next_of mem name ≡ next_name o
      name_leads = own_link ∙ own

      at_leads : kept st.at ≡ true → next_of mem st.at ≡ Some name
      at_leads on = here on ∙ value_false adds

      -- it shares its frames with the one behind it
      target_shares : (q : Option Member) (j f : ℕ) → o ≡ q → next_name q ≡ Some j → stands_in f w.member ≡ true → stands_in f (who_then j) ≡ true
      target_shares None j f is lead stands = absurd (cc)
      target_shares (Some y) j f is lead stands =
          let same : successor p.members.schedule w.member f ≡ Some y = sym (same_successor p.members.schedule w.member f k.order.kept its.0 (its.1, stands)) ∙ is in
          let there : IsInFrame p.members.schedule f y = subst (IsNext p.members.schedule f) same (successor_is p.members.schedule w.member f k.order.kept) in
          let begins_j : begins y ≡ j = same_Some (begins y) j lead in
          let other : j ≢ name = target_other j (ap next_name is ∙ lead) in
          let led_y : is_linked (led d) y ≡ true = other_led y there.0 (λ (same : y ≡ w.member). other (sym begins_j ∙ ap begins same)) in
          ap (stands_in f) (old_who j other ∙ ap who (sym begins_j) ∙ r.stand y led_y) ∙ there.1

      first_standing : (n : ℕ) (kind : Kind) → standing new n ≡ Some kind → kept_then n ≡ true
      first_standing n kind is =
          let x : IsMemberAt (led new) n = member_stands new n kind is in
          let linked : is_linked p.members.schedule x.member ≡ true = then_linked x.member x.linked in
          ⊎_elim (λ (same : n ≡ name). subst (λ (i : ℕ). kept_then i ≡ true) (sym same) name_is_kept)
          (λ (differs : n ≢ name).
          still_kept n (subst (λ (i : ℕ). kept i ≡ true) x.begins
          (led_kept x.member (other_led x.member linked (λ (same : x.member ≡ w.member). differs (sym x.begins ∙ ap begins same))))))
          (cases_eq n name)

      first_closed : (n j : ℕ) → kept_then n ≡ true → next_of mem n ≡ Some j → kept_then j ≡ true
      first_closed n j on is =
          ⊎_elim (λ (same : n ≡ name). still_kept j (target_kept j (sym name_leads ∙ ap (next_of mem) (sym same) ∙ is)))
          (λ (differs : n ≢ name).
          let old : kept n ≡ true = was_kept n on differs in
          ⊎_elim (λ (at_it : n ≡ st.at).
          subst (λ (i : ℕ). kept_then i ≡ true) (same_Some name j (sym (at_leads (subst (λ (i : ℕ). kept i ≡ true) at_it old)) ∙ ap (next_of mem) (sym at_it) ∙ is)) name_is_kept)
          (λ (away : n ≢ st.at). still_kept j (r.closed n j old (sym (links n old away) ∙ is))) (cases_eq n st.at)) (cases_eq n name)

      first_falls : (n : ℕ) → kept_then n ≡ true → height_to height_then (next_of mem n) < height_then n
      first_falls n on =
          ⊎_elim (λ (same : n ≡ name).
          subst (λ (i : ℕ). height_to height_then (next_of mem i) < height_then i) (sym same)
          (let one : height_to height_then (next_of mem name) ≡ 2 * height_to height (next_name o) = ap (height_to height_then) name_leads ∙ doubled (next_name o) target_other in
          let two = new_height in
          less_by (height_to height_then (next_of mem name)) (height_then name) (height_to height (next_name o)) one two))
          (λ (differs : n ≢ name).
          let old : kept n ≡ true = was_kept n on differs in
          let mine : height_then n ≡ 2 * height n = old_height n differs in
          ⊎_elim (λ (at_it : n ≡ st.at).
          let old_at : kept st.at ≡ true = subst (λ (i : ℕ). kept i ≡ true) at_it old in
          let lead : next_of mem n ≡ Some name = ap (next_of mem) at_it ∙ at_leads old_at in
          let less : height_to height (next_name o) < height n
          = subst (λ (q : Option ℕ). height_to height q < height n) (ap (next_of m) at_it ∙ before_first adds zero_made) (r.falls n old) in
          between (height_to height_then (next_of mem n)) (height_then n) (height_to height (next_name o)) (height n) (ap (height_to height_then) lead ∙ new_height) mine less)
          (λ (away : n ≢ st.at).
          let same : next_of mem n ≡ next_of m n = links n old away in
          twice (height_to height_then (next_of mem n)) (height_then n) (height_to height (next_of m n)) (height n)
          (ap (height_to height_then) same ∙ doubled (next_of m n) (λ j is. other_name j (r.closed n j old is))) mine (r.falls n old)) (cases_eq n st.at)) (cases_eq n name)
        where
          less_by : (a b c : ℕ) → a ≡ 2 * c → b ≡ 2 * c + 1 → a < b
          less_by a b c one two = omega (arith, one, two)

          between : (a b c e : ℕ) → a ≡ 2 * c + 1 → b ≡ 2 * e → c < e → a < b
          between a b c e one two less = omega (arith, one, two, less)

          twice : (a b c e : ℕ) → a ≡ 2 * c → b ≡ 2 * e → c < e → a < b
          twice a b c e one two less = omega (arith, one, two, less)

      first_shares : (n j f : ℕ) → f < 1024 → kept_then n ≡ true → next_of mem n ≡ Some j → stands_in f (who_then n) ≡ true → stands_in f (who_then j) ≡ true
      first_shares n j f below on is stands =
          ⊎_elim (λ (same : n ≡ name).
          target_shares o j f refl (sym name_leads ∙ ap (next_of mem) (sym same) ∙ is) (ap (stands_in f) (sym (ap who_then same ∙ new_who)) ∙ stands))
          (λ (differs : n ≢ name).
          let old : kept n ≡ true = was_kept n on differs in
          let was : stands_in f (who n) ≡ true = ap (stands_in f) (sym (old_who n differs)) ∙ stands in
          ⊎_elim (λ (at_it : n ≡ st.at).
          let old_at : kept st.at ≡ true = subst (λ (i : ℕ). kept i ≡ true) at_it old in
          let same : name ≡ j = same_Some name j (sym (at_leads old_at) ∙ ap (next_of mem) (sym at_it) ∙ is) in
          stored_member (stands_in f (who_then j) ≡ true) old_at
          (λ x led linked other at_x word_is.
          let there : stands_in f x ≡ true = ap (stands_in f) (sym (ap who (at_it ∙ at_x) ∙ r.stand x led)) ∙ was in
          ap (stands_in f) (ap who_then (sym same) ∙ new_who) ∙ sp.serves f (ap (has_word f) word_is ∙ there)))
          (λ (away : n ≢ st.at).
          let lead : next_of m n ≡ Some j = sym (links n old away) ∙ is in
          ap (stands_in f) (old_who j (other_name j (r.closed n j old lead))) ∙ r.shares n j f below old lead was) (cases_eq n st.at)) (cases_eq n name)

      pub first_ranked : IsRanked mem new kept_then height_then who_then
      first_ranked = record {
        standing_are = first_standing;
        closed = first_closed;
        falls = first_falls;
        shares = first_shares;
        named = λ n on.
            ⊎_elim (λ (same : n ≡ name). ap begins (ap who_then same ∙ new_who) ∙ sym same)
            (λ (differs : n ≢ name). ap begins (old_who n differs) ∙ r.named n (was_kept n on differs)) (cases_eq n name);
        stand = λ x on.
            (let linked : is_linked p.members.schedule x ≡ true = then_linked x on in
            ⊎_elim (λ (same : begins x ≡ name). ap who_then same ∙ new_who ∙ sym (one_name x w.member linked its.1 same))
            (λ (differs : begins x ≢ name). old_who (begins x) differs ∙ r.stand x (other_led x linked (λ (same : x ≡ w.member). differs (ap begins same)))) (cases_eq (begins x) name));
        linking = λ v is adds_v made n on other lead.
            (let h = k.half v is adds_v made in
            let one : begins v.member ≡ name = ap begins h.0 in
            let away : n ≢ name = λ (same : n ≡ name). other (same ∙ sym one) in
            let old : kept n ≡ true = was_kept n on away in
            let lead_name : next_of mem n ≡ next_name o = lead ∙ ap (next_of mem) one ∙ name_leads in
            let not_at : n ≢ st.at
            = λ (at_it : n ≡ st.at).
            target_other name (sym lead_name ∙ ap (next_of mem) at_it ∙ at_leads (subst (λ (i : ℕ). kept i ≡ true) at_it old)) refl in
            let less : height_to height (next_name o) < height n = subst (λ (q : Option ℕ). height_to height q < height n) (sym (links n old not_at) ∙ lead_name) (r.falls n old) in
            above (height_then (begins v.member)) (height_then n) (height_to height (next_name o)) (height n) (ap height_then one ∙ new_height) (old_height n away) less);
      }
        where
          above : (a b c e : ℕ) → a ≡ 2 * c + 1 → b ≡ 2 * e → c < e → a < b
          above a b c e one two less = omega (arith, one, two, less)
