-- The walk meets a new endpoint's queue head.
use Rattle.std.proofs.Common.{◌≡◌, ◌≢◌, ℕ, ◌+◌, ◌*◌, Bool, true, false, ◌||◌, ◌==◌, List, Some, ap, refl, sym, subst, ◌∙◌, ⊎_elim, arith}
use Rattle.std.proofs.lemmas.Bool.{eqb-true, true≢false}
use Rattle.law_driver_ring.proofs.Common.{found_one, one_element, new_on}
use Rattle.usb_base.specs.declared.endpoints.EpDesc.{EpDesc}
use Rattle.link_words.specs.Layout.{word_of}
use Rattle.link_words.specs.Fields.{link_rows}
use Rattle.qh_qtd.specs.declared.queue_head.Qh.{Qh}
use Rattle.qh_qtd.specs.QueueHead.{IsQhInRange}
use Rattle.async_walk.specs.Rows.{place}
use Rattle.mem_runs.specs.Book.{store}
use Rattle.drv_table.specs.Words.{head_block, to_queue_head, queue_head_link, queue_head, dummy_qtd}
use Rattle.drv_table.specs.Commands.{advance}
use Rattle.claims_driver.specs.Owners.{EndpointRuns}
use Rattle.law_structures.specs.lent_structures.Structures.{QueueHead, Element, Buffer, Structures, with_structure, put}
use Rattle.law_structures.proofs.lemmas.lent_structures.Names.{with_here, with_there}
use Rattle.law_structures.specs.lent_structures.Sound.{LeadsAmong, IsSoundElement, IsMember}
use Rattle.law_structures.proofs.lemmas.lent_structures.Altering.{found_queue}
use Rattle.law_ring.specs.Stores.{hand_linked, IsWider}
use Rattle.law_driver_ring.specs.Driven.{DrivesRing}
use Rattle.law_driver_ring.proofs.Storing.{link_store_drives}
use Rattle.law_driver_ring.proofs.Viewing.{advance_views}
use Rattle.law_driver_ring.specs.Linked.{no_part, opened_part, with_member, head_at, LinkOpensDrives}

-- ---- its part

no_buffer : (x : EndpointRuns) (q : Qh) (a : ℕ) (pages : List ℕ) (k : ℕ) (bs : List ℕ) → opened_part x q a ≡ Some (Buffer pages k bs) → ⊥
no_buffer x q a pages k bs found =
    ⊎_elim (λ (same : Element dummy_qtd ≡ Buffer pages k bs). first pages k bs same) (λ (head : QueueHead q ≡ Buffer pages k bs). second pages k bs head) (found_one x q a (Buffer pages k bs) found)
  where
    first : (pages : List ℕ) (k : ℕ) (bs : List ℕ) → Element dummy_qtd ≡ Buffer pages k bs → ⊥
    first pages k bs same = cc

    second : (pages : List ℕ) (k : ℕ) (bs : List ℕ) → QueueHead q ≡ Buffer pages k bs → ⊥
    second pages k bs same = cc

-- ---- a member

opened_member : (wider : ℕ → Bool) (x : EndpointRuns) (e : EpDesc) (link : ℕ) (part : Structures) → x.queue ≢ x.dummy → ((b : ℕ) → part b ≡ opened_part x (queue_head e link x.dummy) b) → LeadsAmong wider (to_queue_head link) → IsMember wider (32 * x.queue) part
opened_member wider x e link part differs same leads =
    let q = queue_head e link x.dummy in
    let one = with_structure no_part (32 * x.queue) (QueueHead q) in
    record {
      queue = q;
      here = same (32 * x.queue) ∙ with_there one (32 * x.dummy) (Element dummy_qtd) (32 * x.queue) (λ s. differs (omega (arith, s))) ∙ with_here no_part (32 * x.queue) (QueueHead q);
      link = leads;
      sound = record {
        rest = λ off idle. record { qtd = dummy_qtd; here = same (32 * x.dummy) ∙ with_here one (32 * x.dummy) (Element dummy_qtd) };
        work = λ on. absurd (true≢false (sym on));
      };
      elements = λ a t found. subst (IsSoundElement part) (one_element x q a t (sym (same a) ∙ found)) (record { next = tt; alternate = tt; work = λ on. absurd (true≢false (sym on)) });
      own = λ a b t u pages k bs first second name there. absurd (no_buffer x q _ pages k bs (sym (same _) ∙ there));
    }

-- ---- the store

pub link_is : (b : ℕ) → word_of link_rows (to_queue_head b) ≡ queue_head_link b
link_is b = let e : 32 * b + (1 * 2 + 0) ≡ queue_head_link b = omega arith in e

wider_still : (member : ℕ → Bool) (n : ℕ) → IsWider member (with_member member n)
wider_still member n i on = by_test (i == n)
  where
    by_test : (b : Bool) → (b || member i) ≡ true
    by_test true = refl
    by_test false = on

newly : (member : ℕ → Bool) (n i : ℕ) → with_member member n i ≡ true → member i ≡ false → i ≡ n
newly member n i on off = eqb-true i n (by_test (i == n) on)
  where
    by_test : (b : Bool) → (b || member i) ≡ true → b ≡ true
    by_test true is = refl
    by_test false is = absurd (true≢false (sym is ∙ off))

pub link_range : (q : Qh) (b : ℕ) → IsQhInRange q → IsQhInRange (record q { link = to_queue_head b })
link_range q b range = ((omega arith, (omega arith, tt)), range.1)

pub link_opens_drives : LinkOpensDrives
link_opens_drives base member parts hand w p x e link q k can on here leads differs same =
    let n = 32 * x.queue in
    let wider = with_member member n in
    let l = to_queue_head x.queue in
    let head = k.ring.members head_at on in
    let head_is : head.queue ≡ q = found_queue (parts head_at head_at) head.queue q head.here here in
    let among : LeadsAmong member (to_queue_head link) = subst (LeadsAmong member) (ap (λ (u : Qh). u.link) head_is ∙ leads) head.link in
    let further : LeadsAmong wider (to_queue_head link) = record { to = among.to; leads = among.leads; on = wider_still member n among.to among.on } in
    subst (λ (v : ℕ). DrivesRing base wider (put parts head_at head_at (QueueHead (record q { link = l }))) (hand_linked head_at l hand) (place w p.registers (store p.driver.book p.memory head_block head_at v)) (advance p.driver)) (link_is x.queue)
    (link_store_drives base member wider parts hand w p.registers p.memory p.driver (advance p.driver) head_block head_at q l k (advance_views p.driver) can (wider_still member n) here
    (link_range q x.queue (k.ring.tells.each head_at head_at (QueueHead q) here).range) (λ there. record { to = n; leads = refl; on = new_on member n })
    (λ i new off. let is : i ≡ n = newly member n i new off in
    subst (λ (j : ℕ). IsMember wider j (parts j)) (sym is) (opened_member wider x e link (parts n) differs same further)))
