-- The stores that are owed stand at each event of the controller, and where a row or a command leaves what is owed and the queues that wait.
use Rattle.std.proofs.Common.{◌≡◌, ◌≢◌, ℕ, ◌+◌, ◌*◌, ◌<◌, ◌==◌, Bool, true, false, List, [], get_or, Option, Some, None, if◌then◌else◌, ap, refl, sym, subst, ◌∙◌, ⊎_elim, inl, inr}
use Rattle.std.proofs.lemmas.Bool.{cases_eq, eq-eqb, false≢true}
use Rattle.law_common.proofs.Numbers.{other_number}
use Rattle.law_structures.proofs.Common.{element_is}
use Rattle.law_common.proofs.Lists.{all_more}
use Rattle.usb_base.specs.declared.packets.Ask.{Ask}
use Rattle.usb_base.specs.declared.packets.Reply.{Reply}
use Rattle.word_mem.specs.Memory.{Mem, word_at}
use Rattle.word_mem.proofs.Words.{get_or-words_in}
use Rattle.qh_qtd.specs.declared.token.Token.{Token}
use Rattle.qh_qtd.specs.declared.qtd.Qtd.{Qtd}
use Rattle.qh_qtd.specs.declared.queue_head.Qh.{Qh}
use Rattle.qh_qtd.specs.QueueHead.{qh_words}
use Rattle.drv_table.specs.declared.rows.DriverRow.{DriverRow}
use Rattle.drv_table.specs.declared.rows.DriverRow.TheVariants as rows
use Rattle.drv_table.specs.DriverContent.{DriverContent}
use Rattle.drv_table.specs.Rows.{driver_row, after_driver_row}
use Rattle.law_structures.specs.lent_structures.Structures.{Structure, QueueHead, Element, Structures, StructureSets, put, Tells}
use Rattle.law_structures.proofs.lemmas.lent_structures.Names.{put_same, put_else, put_beside, put_found}
use Rattle.law_structures.proofs.lemmas.lent_structures.Altering.{found_queue, no_two}
use Rattle.law_ring.specs.Fewer.{fewer_structures, without_those}
use Rattle.law_ring.specs.Halted.{IsKeptOrPublished}
use Rattle.law_ring.specs.Order.{IsAmong}
use Rattle.law_ring.proofs.Walking.{halted_queue_stays}
use Rattle.law_queues.specs.mended_heads.Owed.{StalledQueue, IsOwed}
use Rattle.law_queues.specs.mended_heads.Waiting.{StandsHalted, AreAllPublished, Waits, MendsStand}
use Rattle.law_queues.specs.mended_heads.Standing.{NewDriverOwesNone, WalkKeepsMends, HaltedWordsStay, HasRest, KeepsHalted, StoreKeepsHalted, LinkKeepsHalted, LendKeepsHalted, ReleaseKeepsHalted, CommandsKeepMends, is_beside, RowsKeepMends}
use Rattle.law_queues.proofs.lemmas.mended_heads.Content.{all_both, owed_on, any_one}
use Rattle.law_queues.proofs.lemmas.mended_heads.Rows.{is_plain, plain_alike, gives_back, given_mends, given_owes_none}
use Rattle.law_queues.proofs.lemmas.mended_heads.Commands.{is_one, command_alike}

-- ---- nothing is owed

none_stand : (d : DriverContent) (parts : StructureSets) (out : ℕ → List ℕ) → d.mends ≡ [] → MendsStand d parts out
none_stand d parts out none = record { queues = []; are = record { mends = none; owed = tt; wait = tt; apart = tt } }

pub new_driver_owes_none : NewDriverOwesNone
new_driver_owes_none n room parts out = none_stand _ parts out refl

-- ---- the controller

waits_same : (s : StalledQueue) (parts now : StructureSets) (out : ℕ → List ℕ) → now (32 * s.queue) ≡ parts (32 * s.queue) → Waits s parts out → Waits s now out
waits_same s parts now out same w = record {
  stands = subst (StandsHalted s) (sym same) w.stands;
  published = subst (AreAllPublished (out (32 * s.queue))) (sym same) w.published;
}

pub walk_keeps_mends : {W : Type 0} (transacts : W → Ask → List ℕ → Reply → W → Type 0) → WalkKeepsMends transacts
walk_keeps_mends transacts member parts hand reply wire after now later kind d out members in_hand effect k = record {
  queues = k.queues;
  are = record {
    mends = k.are.mends;
    owed = k.are.owed;
    wait = all_more (λ (s : StalledQueue). Waits s parts out) (λ (s : StalledQueue). Waits s now out) k.queues
        (λ s w. waits_same s parts now out (halted_queue_stays transacts member parts hand reply wire after now later kind (32 * s.queue) w.stands.head members in_hand effect w.stands.here w.stands.halted) w)
        k.are.wait;
    apart = k.are.apart;
  };
}

-- its words in memory
word_told : (m : Mem) (parts : StructureSets) (n i : ℕ) (q : Qh) → Tells m parts → parts n n ≡ Some (QueueHead q) → i < 12 → word_at m (n + 4 * i) ≡ get_or (qh_words q) i 0
word_told m parts n i q tells here below =
    let holds = tells.each n n (QueueHead q) here in
    sym (get_or-words_in m.words n 12 i below) ∙ ap (λ (ws : List ℕ). get_or ws i 0) holds.words

pub halted_words_stay : {W : Type 0} (transacts : W → Ask → List ℕ → Reply → W → Type 0) → HaltedWordsStay transacts
halted_words_stay transacts base member parts hand p new wire after kind n q i ring h here halted below =
    let same = halted_queue_stays transacts member parts hand p.walk.reply wire after h.now h.later kind n q ring.members ring.in_hand h.effect here halted in
    word_told new.memory h.now n i q h.ring.tells (ap (λ (part : Structures). part n) same ∙ here) below ∙ sym (word_told p.memory parts n i q ring.tells here below)

-- ---- what a row leaves of a halted queue

has_rest : (now : StructureSets) (n : ℕ) (q : Qh) → now n n ≡ Some (QueueHead q) → HasRest now n q
has_rest now n q here = record { queue = q; here = here; rest = record { token = refl; current = refl; next = refl; alternate = refl } }

pub store_keeps_halted : StoreKeepsHalted
store_keeps_halted parts out later n k e old new here own beside = record {
  head = λ q is halted. has_rest (put parts k e (Element new)) n q
      (⊎_elim {C = put parts k e (Element new) n n ≡ Some (QueueHead q)}
      (λ (same : n ≡ k).
      ap (λ (i : ℕ). put parts k e (Element new) i n) same
      ∙ put_else parts k e (Element new) n (no_two (parts k) n e (QueueHead q) (Element old) (ap (λ (i : ℕ). parts i n) (sym same) ∙ is) here (λ z. cc))
      ∙ ap (λ (i : ℕ). parts i n) (sym same) ∙ is)
      (λ (differs : n ≢ k). ap (λ (part : Structures). part n) (put_beside parts k e (Element new) n differs) ∙ is) (cases_eq n k));
  published = λ a t among is.
      ⊎_elim {C = IsKeptOrPublished (out n) (parts n) a t}
      (λ (put_there : (n ≡ k) × (a ≡ e) × (Element t ≡ Element new)).
      ⊎_elim {C = IsKeptOrPublished (out n) (parts n) a t} (λ (other : IsAmong a (out n) × (a ≢ e)). absurd (other.1 put_there.1))
      (λ (published : (a ≡ e) × (new.token.active ≡ true)). inr (ap (λ (u : Qtd). u.token.active) (element_is t new put_there.2) ∙ published.1)) (own put_there.0 a among))
      (λ (was : parts n a ≡ Some (Element t)).
      ⊎_elim {C = IsKeptOrPublished (out n) (parts n) a t}
      (λ (same : n ≡ k).
      ⊎_elim {C = IsKeptOrPublished (out n) (parts n) a t} (λ (other : IsAmong a (out n) × (a ≢ e)). inl (other.0, was))
      (λ (published : (a ≡ e) × (new.token.active ≡ true)).
      let there : put parts k e (Element new) n a ≡ Some (Element new) = ap (λ (i : ℕ). put parts k e (Element new) i a) same ∙ ap (put parts k e (Element new) k) published.0 ∙ put_same parts k e (Element new) in
      inr (ap (λ (u : Qtd). u.token.active) (one_there (put parts k e (Element new) n a) t new is there) ∙ published.1)) (own same a among))
      (λ (differs : n ≢ k). inl (beside differs a among, was)) (cases_eq n k))
      (put_found parts k e (Element new) n a (Element t) is);
}
  where
    one_there : (o : Option Structure) (t u : Qtd) → o ≡ Some (Element t) → o ≡ Some (Element u) → t ≡ u
    one_there o t u one two = cc

pub link_keeps_halted : LinkKeepsHalted
link_keeps_halted parts out n k q l here =
    let new : Qh = record q { link = l } in
    let now = put parts k k (QueueHead new) in
    record {
      head = λ r is halted.
          ⊎_elim {C = HasRest now n r}
          (λ (same : n ≡ k).
          let one : r ≡ q = found_queue (parts n n) r q is (ap (λ (i : ℕ). parts i i) same ∙ here) in
          record {
            queue = new;
            here = ap (λ (i : ℕ). now i i) same ∙ put_same parts k k (QueueHead new);
            rest = record {
              token = ap (λ (z : Qh). z.token) (sym one);
              current = ap (λ (z : Qh). z.current) (sym one);
              next = ap (λ (z : Qh). z.next) (sym one);
              alternate = ap (λ (z : Qh). z.alternate) (sym one);
            };
          })
          (λ (differs : n ≢ k). has_rest now n r (ap (λ (part : Structures). part n) (put_beside parts k k (QueueHead new) n differs) ∙ is)) (cases_eq n k);
      published = λ a t among is.
          ⊎_elim {C = IsKeptOrPublished (out n) (parts n) a t} (λ (put_there : (n ≡ k) × (a ≡ k) × (Element t ≡ QueueHead new)). absurd (no_head t new put_there.2))
          (λ (was : parts n a ≡ Some (Element t)). inl (among, was)) (put_found parts k k (QueueHead new) n a (Element t) is);
    }
  where
    no_head : (t : Qtd) (r : Qh) → Element t ≢ QueueHead r
    no_head t r same = cc

pub lend_keeps_halted : LendKeepsHalted
lend_keeps_halted parts now out later n still published = record { head = λ q is halted. has_rest now n q (still n (QueueHead q) is); published = published }

pub release_keeps_halted : ReleaseKeepsHalted
release_keeps_halted parts out later n k goes head fewer = record {
  head = λ q is halted. has_rest (without_those parts k goes) n q
      (⊎_elim {C = without_those parts k goes n n ≡ Some (QueueHead q)}
      (λ (same : n ≡ k).
      ap (λ (b : Bool). (if b then fewer_structures goes (parts n) else parts n) n) (eq-eqb n k same) ∙ ap (λ (b : Bool). if b then None else parts n n) (head same) ∙ is)
      (λ (differs : n ≢ k). ap (λ (b : Bool). (if b then fewer_structures goes (parts n) else parts n) n) (other_number n k differs) ∙ is) (cases_eq n k));
  published = λ a t among is. inl (fewer a among, was (n == k) a t is);
}
  where
    stays : (c : Bool) (o : Option Structure) (t : Qtd) → (if c then None else o) ≡ Some (Element t) → o ≡ Some (Element t)
    stays true o t is = absurd (cc)
    stays false o t is = is

    was : (b : Bool) (a : ℕ) (t : Qtd) → (if b then fewer_structures goes (parts n) else parts n) a ≡ Some (Element t) → parts n a ≡ Some (Element t)
    was true a t is = stays (goes a) (parts n a) t is
    was false a t is = is

-- ---- a content and structures that leave it

-- the queue waits as it did
waits_on : (s : StalledQueue) (parts now : StructureSets) (out later : ℕ → List ℕ) → KeepsHalted parts now out later (32 * s.queue) → Waits s parts out → Waits s now later
waits_on s parts now out later keeps w =
    let h = keeps.head w.stands.head w.stands.here w.stands.halted in
    record {
      stands = record {
        head = h.queue;
        here = h.here;
        halted = ap (λ (t : Token). t.halted) h.rest.token ∙ w.stands.halted;
        next = λ some. h.rest.next ∙ w.stands.next some;
        alternate = λ some. h.rest.alternate ∙ w.stands.alternate some;
      };
      published = λ a t among is.
          ⊎_elim {C = t.token.active ≡ true} (λ (was : IsAmong a (out (32 * s.queue)) × (parts (32 * s.queue) a ≡ Some (Element t))). w.published a t was.0 was.1)
          (λ (on : t.token.active ≡ true). on) (keeps.published a t among is);
    }

pub stand_on : (d f : DriverContent) (parts now : StructureSets) (out later : ℕ → List ℕ) → f.mends ≡ d.mends → ((s : StalledQueue) → IsOwed d s → IsOwed f s)
    → ((s : StalledQueue) → IsOwed d s → KeepsHalted parts now out later (32 * s.queue)) → MendsStand d parts out → MendsStand f now later
stand_on d f parts now out later mends owed keeps k = record {
  queues = k.queues;
  are = record {
    mends = mends ∙ k.are.mends;
    owed = all_more (IsOwed d) (IsOwed f) k.queues owed k.are.owed;
    wait = all_both (IsOwed d) (λ (s : StalledQueue). Waits s parts out) (λ (s : StalledQueue). Waits s now later) k.queues (λ s is w. waits_on s parts now out later (keeps s is) w) k.are.owed k.are.wait;
    apart = k.are.apart;
  };
}

-- nothing differs of what waits
pub keeps_same : (parts : StructureSets) (out : ℕ → List ℕ) (n : ℕ) → KeepsHalted parts parts out out n
keeps_same parts out n = record { head = λ q is halted. has_rest parts n q is; published = λ a t among is. inl (among, is) }

pub commands_keep_mends : CommandsKeepMends
commands_keep_mends d m cmd o parts out is k =
    let alike = command_alike d m cmd o is in
    stand_on d o.driver parts parts out out alike.mends (λ s owed. owed_on is_one d o.driver s alike.owed owed owed.control) (λ s owed. keeps_same parts out (32 * s.queue)) k

-- a row is plain, or gives back, or is a store that is owed, or a harvest
plain_or : (row : DriverRow) → is_beside row ≡ true → (is_plain row ≡ true → ⊥) → gives_back row ≡ true
plain_or (rows.ReleaseTransfer t) beside none = refl
plain_or (rows.ReleaseEndpoint e) beside none = refl
plain_or (rows.Unlink t) beside none = refl
plain_or (rows.ReleaseRemoved what) beside none = refl
plain_or (rows.Mend w) beside none = absurd (false≢true beside)
plain_or (rows.Harvest e t found) beside none = absurd (false≢true beside)
plain_or _ beside none = absurd (none refl)

pub rows_keep_mends : RowsKeepMends
rows_keep_mends p parts now out later beside keeps k = by (is_plain (driver_row p)) refl
  where
    by : (b : Bool) → is_plain (driver_row p) ≡ b → MendsStand (after_driver_row (driver_row p) p).driver now later
    by true plain =
        let alike = plain_alike (driver_row p) p plain in
        stand_on p.driver (after_driver_row (driver_row p) p).driver parts now out later alike.mends (λ s owed. owed_on any_one p.driver (after_driver_row (driver_row p) p).driver s alike.owed owed tt) keeps k
    by false off =
        let gives = plain_or (driver_row p) beside (λ on. false≢true (sym off ∙ on)) in
        none_stand (after_driver_row (driver_row p) p).driver now later (given_mends (driver_row p) p gives ∙ given_owes_none p gives)
