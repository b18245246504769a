-- The parts of a load script behind its devices, piece by piece, and that the whole has no fault.
use Rattle.std.proofs.Common.{◌≡◌, ℕ, suc, zero, ◌+◌, ◌-◌, ◌*◌, ◌%◌, ◌<◌, ◌≤◌, Bool, true, false, List, [], ◌∷◌, ◌++◌, map, length, Option, Some, None, Result, Ok, Err, refl, sym, ap, ◌∙◌, subst, add-one, arith, append_assoc, length-append}
use Rattle.std.specs.Prelude.{◌==◌, nat_lt, nat_le, codes, slice_index, if◌then◌else◌}
use Rattle.std.specs.Fmt.{digits, decimal}
use Rattle.std.specs.Result.{result_err}
use Rattle.std.specs.List.{range_with_len, flat_map, AllByRecursion}
use Rattle.std.proofs.lemmas.Bool.{cases_Bool, cond-true, cond-false, eqb-true, le-ltb, ne_eqb}
use Rattle.std.proofs.lemmas.List.{append-nil}
use Rattle.usb_base.specs.declared.endpoints.EpDesc.{EpDesc}
use Rattle.usb_base.specs.declared.commands.Cmd.TheVariants as cmd
use Rattle.script_types.specs.declared.scripts.Script.{Script}
use Rattle.script_types.specs.declared.scripts.Event.TheVariants as event
use Rattle.script_forms.specs.declared.causes.TextWhy.{TextWhy}
use Rattle.script_forms.specs.declared.table.FirstWord.TheVariants as F
use Rattle.script_forms.specs.declared.table.Form.{Form}
use Rattle.script_forms.specs.declared.table.Form.TheVariants as form
use Rattle.script_forms.specs.declared.statements.Content.TheVariants as content
use Rattle.script_forms.specs.declared.statements.Answer.TheVariants as answers
use Rattle.script_forms.specs.declared.statements.Statement.TheVariants as says
use Rattle.script_forms.specs.Syntax.{number_of}
use Rattle.script_forms.specs.Fitting.{form_of}
use Rattle.script_forms.specs.Values.{statement_of}
use Rattle.script_world.specs.Draft.{Draft, empty, script_of}
use Rattle.script_world.specs.Rows.{cause_of, after, commanded}
use Rattle.script_text.specs.Reading.{said, line_read, lines_read, lines_in, onward, version_read, no_bytes, text_read, script_read, script_after}
use Rattle.script_text.specs.Faults.{first_fault, Spells}
use Rattle.script_load.specs.declared.parts.Load.TheVariants.{Bulk512, Bulk64, Interrupt}
use Rattle.script_load.specs.declared.parts.LoadPart.{LoadPart}
use Rattle.script_load.specs.declared.parts.LoadPart.TheVariants as parts
use Rattle.script_load.specs.Load.{address, is_in, period, load_of, long, length_of, seed_of, end_words, kind_words, device_line, piece, part_text, all_parts, draws, load_text}
use Rattle.script_load.proofs.Spaced.{IsWord, IsPlain, Reads, spaced, lined, decimal_is_word, line_is, reads_line, reads_both, reads_nothing, reads_same, reads_pieces}
use Rattle.script_load.proofs.Said.{ep_name, end_list, bulk_512_fits, bulk_512_value, bulk_64_fits, bulk_64_value, interrupt_fits, interrupt_value}
use Rattle.script_load.proofs.Said.{reply_fits, reply_value, open_fits, open_value, get_fits, get_value, put_fits, put_value, order_d_fits, order_d_value, order_m_fits, order_m_value}
use Rattle.script_load.proofs.Said.{word_ep, word_reply, word_open, word_get, word_put, word_order, word_fill, word_bulk, word_interrupt, word_512, word_64, word_8, word_1, word_d, word_m, word_2000, word_100, word_4000, end_words_are}
use Rattle.script_load.proofs.Drafts.{ep_said, load_name, load_line, load_desc, opens_of}
use Rattle.script_load.proofs.Declares.{IsDeclaring, IsPace, added, declares_no_cause, declares, one_more, period_is_pace}
use Rattle.script_load.proofs.Uses.{IsReady, ready, order_no_cause, ordered_is_ready, micro_no_cause, micro_is_ready, reply_no_cause, reply_is_ready, open_no_cause, opens_it, opened_is_ready}
use Rattle.script_load.proofs.Uses.{get_no_cause, gets_it, got_is_ready, put_no_cause, puts_it, put_is_ready}
use Rattle.script_load.proofs.Devices.{start, head_read, placed, placed_first, next_device, devices_declared}

-- ---- an endpoint is declared

abbrev kind_list : Bool → Bool → ℕ → List (List ℕ)
kind_list true b p = codes "bulk" ∷ codes "512" ∷ []
kind_list false true p = codes "interrupt" ∷ codes "8" ∷ decimal p ∷ codes "1" ∷ []
kind_list false false p = codes "bulk" ∷ codes "64" ∷ []

abbrev ep_list : ℕ → Bool → Bool → ℕ → List (List ℕ)
ep_list a c b p = decimal a ∷ end_list b (kind_list c b p)

abbrev ep_form : Bool → Bool → Form
ep_form true b = form.EpBulk
ep_form false true = form.EpInterrupt
ep_form false false = form.EpBulk

abbrev ep_text : ℕ → Bool → Bool → ℕ → List ℕ
ep_text a c b p =
    codes "ep " ++ ((decimal a ++ end_words b) ++ (kind_words (if c then Bulk512 else if b then Interrupt else Bulk64) p ++ 10 ∷ []))

ep_text_is : (a : ℕ) (c b : Bool) (p : ℕ) → lined (codes "ep") (ep_list a c b p) ≡ ep_text a c b p
ep_text_is a true true p = simp append_assoc refl
ep_text_is a true false p = simp append_assoc refl
ep_text_is a false true p = simp append_assoc refl
ep_text_is a false false p = simp append_assoc refl

module _ (a p : ℕ) (ha : a ≤ 20) (hp : p < 65536) where
  kind_words_are : (c b : Bool) → AllByRecursion IsWord (kind_list c b p)
  kind_words_are true b = (word_bulk, (word_512, tt))
  kind_words_are false true = (word_interrupt, (word_8, (decimal_is_word p (omega (arith, hp)), (word_1, tt))))
  kind_words_are false false = (word_bulk, (word_64, tt))

  few_words : (c b : Bool) → length (ep_list a c b p) ≤ 7
  few_words true true = omega arith
  few_words true false = omega arith
  few_words false true = omega arith
  few_words false false = omega arith

  ep_says : (c b : Bool) → IsPlain (codes "ep") (ep_list a c b p)
  ep_says c b = record {
    first = word_ep;
    words = (decimal_is_word a (omega (arith, ha)), end_words_are b (kind_list c b p) (kind_words_are c b));
    few = few_words c b;
    says = refl;
  }

  ep_fits : (c b : Bool) → form_of 1 F.Ep (ep_list a c b p) ≡ Ok (ep_form c b)
  ep_fits true b = bulk_512_fits a (omega (arith, ha)) b
  ep_fits false true = interrupt_fits a (omega (arith, ha)) p hp
  ep_fits false false = bulk_64_fits a (omega (arith, ha)) false

  ep_value : (c b : Bool) → statement_of (ep_form c b) (ep_list a c b p) ≡ says.Ep (ep_said a c b p)
  ep_value true true = bulk_512_value a (omega (arith, ha)) true
  ep_value true false = bulk_512_value a (omega (arith, ha)) false
  ep_value false true = interrupt_value a (omega (arith, ha)) p hp
  ep_value false false = bulk_64_value a (omega (arith, ha)) false

  ep_read : (w : Draft) (n : ℕ) (c b : Bool) → 2 ≤ n → w.version ≡ 1 → w.acting ≡ false
      → line_read w n (spaced (codes "ep") (ep_list a c b p)) ≡ said w n (says.Ep (ep_said a c b p))
  ep_read w n c b le version idle =
      line_is w n (codes "ep") (ep_list a c b p) F.Ep (ep_form c b) (says.Ep (ep_said a c b p)) le (ep_says c b) version refl idle
      (ep_fits c b) (ep_value c b)

next_endpoint : (ds : List ℕ) (k n : ℕ) (w : Draft) → k < 40 → 2 ≤ n → IsDeclaring ds k w
    → Reads (IsDeclaring ds (k + 1)) w n 1 (piece parts.Endpoints ds k)
next_endpoint ds k n w lt le h =
    let p = period_is_pace ds k in
    reads_same (IsDeclaring ds (k + 1)) w n 1 (lined (codes "ep") (ep_list (address k) (nat_lt k 20) (is_in k) (period ds k)))
    (piece parts.Endpoints ds k)
    (ep_text_is (address k) (nat_lt k 20) (is_in k) (period ds k))
    (reads_line (IsDeclaring ds (k + 1)) w (added (load_line ds k) w) n (codes "ep")
    (ep_list (address k) (nat_lt k 20) (is_in k) (period ds k)) (says.Ep (load_line ds k)) le
    (ep_says (address k) (period ds k) (omega (arith, lt)) p.small (nat_lt k 20) (is_in k))
    (ep_read (address k) (period ds k) (omega (arith, lt)) p.small w n (nat_lt k 20) (is_in k) le h.version h.idle)
    (declares_no_cause ds k w lt h) (sym (declares ds k w lt h)) (one_more ds k w lt h))

-- ---- lengths and first bytes

long_small : (d : ℕ) (c b : Bool) → long (if c then Bulk512 else if b then Interrupt else Bulk64) d ≤ 9000
long_small d true b = omega arith
long_small d false true = omega arith
long_small d false false = omega arith

length_small : (ds : List ℕ) (i : ℕ) → length_of ds i ≤ 9000
length_small ds i = long_small (slice_index ds (10 + 2 * i)) (nat_lt i 20) (is_in i)

seed_small : (ds : List ℕ) (i : ℕ) → seed_of ds i < 256
seed_small ds i = omega arith

-- ---- steps are ordered

order_plain : (w : List ℕ) → IsWord w → IsPlain (codes "order") (codes "d" ∷ w ∷ [])
order_plain w h = record { first = word_order; words = (word_d, (h, tt)); few = omega arith; says = refl }

at_most : (ds : List ℕ) (count more opened : ℕ) (w : Draft) → count ≤ more → IsReady ds count opened w → IsReady ds more opened w
at_most ds count more opened w le h = record {
  version = h.version;
  declared = h.declared;
  commands = omega (arith, h.commands, le);
  scripted = omega (arith, h.scripted, le);
  asked = omega (arith, h.asked, le);
  steps = omega (arith, h.steps, le);
  microframes = h.microframes;
  opens = h.opens;
}

reads_order : (ds : List ℕ) (count more opened n : ℕ) (w : Draft) (k : ℕ) (word : List ℕ) → 2 ≤ n → count ≤ 200 → count + 1 ≤ more
    → IsWord word → number_of word ≡ Some k → k ≤ 2000
    → IsReady ds count opened w → Reads (IsReady ds more opened) w n 1 (lined (codes "order") (codes "d" ∷ word ∷ []))
reads_order ds count more opened n w k word le few room is e small h =
    reads_line (IsReady ds more opened) w (after w n (says.Order event.D k)) n (codes "order") (codes "d" ∷ word ∷ [])
    (says.Order event.D k) le
    (order_plain word is)
    (line_is w n (codes "order") (codes "d" ∷ word ∷ []) F.Order form.OrderD (says.Order event.D k) le
    (order_plain word is) h.version refl refl
    (order_d_fits k word e (omega (arith, small))) (order_d_value k word e))
    (order_no_cause ds count opened w h k few small) refl
    (at_most ds (count + 1) more opened _ room (ordered_is_ready ds count opened w h n k small))

number_2000 : number_of (codes "2000") ≡ Some 2000
unfolding number_of digits
number_2000 = refl

number_100 : number_of (codes "100") ≡ Some 100
unfolding number_of digits
number_100 = refl

number_4000 : number_of (codes "4000") ≡ Some 4000
unfolding number_of digits
number_4000 = refl

-- ---- what IN endpoints answer

record IsReplying (ds : List ℕ) (i : ℕ) (w : Draft) : Type 0 where
  ready : IsReady ds i 0 w
  idle : w.acting ≡ false

abbrev reply_text : ℕ → Bool → ℕ → ℕ → List ℕ
reply_text a b x y =
    if b then codes "reply " ++ ((decimal a ++ end_words b) ++ ((codes " fill " ++ (decimal x ++ (32 ∷ decimal y))) ++ 10 ∷ [])) else []

reply_text_is : (a x y : ℕ)
    → lined (codes "reply") (decimal a ∷ end_list true (codes "fill" ∷ decimal x ∷ decimal y ∷ [])) ≡ reply_text a true x y
reply_text_is a x y = simp append_assoc refl

filled_words : (a x y : ℕ) (b : Bool) → a ≤ 20 → x ≤ 9000 → y < 256
    → AllByRecursion IsWord (decimal a ∷ end_list b (codes "fill" ∷ decimal x ∷ decimal y ∷ []))
filled_words a x y b ha hx hy = (
  decimal_is_word a (omega (arith, ha)),
  end_words_are b (codes "fill" ∷ decimal x ∷ decimal y ∷ [])
      (word_fill, (decimal_is_word x (omega (arith, hx)), (decimal_is_word y (omega (arith, hy)), tt))),
)

reply_plain : (a x y : ℕ) → a ≤ 20 → x ≤ 9000 → y < 256
    → IsPlain (codes "reply") (decimal a ∷ end_list true (codes "fill" ∷ decimal x ∷ decimal y ∷ []))
reply_plain a x y ha hx hy = record { first = word_reply; words = filled_words a x y true ha hx hy; few = omega arith; says = refl }

module _ (ds : List ℕ) (i n : ℕ) (w : Draft) (lt : i < 40) (le : 2 ≤ n) (h : IsReplying ds i w) where
  next_as : (b : Bool) → is_in i ≡ b → Reads (IsReplying ds (i + 1)) w n 1 (reply_text (address i) b (length_of ds i) (seed_of ds i))
  next_as true e =
      let x = length_of ds i in
      let y = seed_of ds i in
      let hx = length_small ds i in
      let hy = seed_small ds i in
      let a : address i ≤ 20 = omega (arith, lt) in
      let plain = reply_plain (address i) (length_of ds i) (seed_of ds i) a hx hy in
      reads_same (IsReplying ds (i + 1)) w n 1 _ (reply_text (address i) true x y) (reply_text_is (address i) x y)
      (reads_line (IsReplying ds (i + 1)) w (after w n (says.Reply (load_name i) (answers.Fill x y))) n (codes "reply") _
      (says.Reply (load_name i) (answers.Fill x y)) le plain
      (line_is w n (codes "reply") _ F.Reply form.ReplyFill
      (says.Reply (load_name i) (answers.Fill x y)) le plain h.ready.version refl h.idle
      (reply_fits (address i) (omega (arith, a)) x (omega (arith, hx)) y hy)
      (reply_value (address i) (omega (arith, a)) x (omega (arith, hx)) y hy
      ∙ ap (λ c. says.Reply (ep_name (address i) c) (answers.Fill x y)) (sym e)))
      (reply_no_cause ds i 0 w h.ready i lt x y hx (omega (arith, lt)) e) refl
      (record { ready = reply_is_ready ds i 0 w h.ready i lt x y hx (omega (arith, lt)) n; idle = h.idle }))
  next_as false e =
      reads_nothing (IsReplying ds (i + 1)) w n 1 le (record { ready = at_most ds i (i + 1) 0 w (omega arith) h.ready; idle = h.idle })

  next_reply : Reads (IsReplying ds (i + 1)) w n 1 (piece parts.Replies ds i)
  next_reply = next_as (is_in i) refl

-- ---- each endpoint is opened

abbrev open_text : ℕ → Bool → List ℕ
open_text a b = codes "open " ++ ((decimal a ++ end_words b) ++ codes "\norder d 2000\n")

open_text_is : (a : ℕ) (b : Bool)
    → lined (codes "open") (decimal a ∷ end_list b []) ++ lined (codes "order") (codes "d" ∷ codes "2000" ∷ []) ≡ open_text a b
open_text_is a true = simp append_assoc refl
open_text_is a false = simp append_assoc refl

few_ends : (a : ℕ) (b : Bool) → length (decimal a ∷ end_list b []) ≤ 7
few_ends a true = omega arith
few_ends a false = omega arith

open_plain : (a : ℕ) (b : Bool) → a ≤ 20 → IsPlain (codes "open") (decimal a ∷ end_list b [])
open_plain a b h =
    record { first = word_open; words = (decimal_is_word a (omega (arith, h)), end_words_are b [] tt); few = few_ends a b; says = refl }

next_open : (ds : List ℕ) (i n : ℕ) (w : Draft) → i < 40 → 2 ≤ n → IsReady ds (40 + 2 * i) i w
    → Reads (IsReady ds (40 + 2 * (i + 1)) (i + 1)) w n 2 (piece parts.Opens ds i)
next_open ds i n w lt le h =
    let a : address i ≤ 20 = omega (arith, lt) in
    let plain = open_plain (address i) (is_in i) a in
    let few : 40 + 2 * i ≤ 200 = omega (arith, lt) in
    reads_same (IsReady ds (40 + 2 * (i + 1)) (i + 1)) w n 2 _ (piece parts.Opens ds i) (open_text_is (address i) (is_in i))
    (reads_both (IsReady ds (40 + 2 * i + 1) (i + 1)) (IsReady ds (40 + 2 * (i + 1)) (i + 1)) w n 1 1 2 _ _ refl
    (reads_line (IsReady ds (40 + 2 * i + 1) (i + 1)) w (commanded w n (cmd.OpenEp (load_desc ds i))) n (codes "open") _
    (says.Open (load_name i)) le plain
    (line_is w n (codes "open") _ F.Open form.Open (says.Open (load_name i)) le plain h.version refl refl
    (open_fits (address i) (omega (arith, a)) (is_in i)) (open_value (address i) (omega (arith, a)) (is_in i)))
    (open_no_cause ds (40 + 2 * i) i w h i lt few) (sym (opens_it ds (40 + 2 * i) i w h i lt few n))
    (opened_is_ready ds (40 + 2 * i) i n w h))
    (λ v m later ready. reads_order ds (40 + 2 * i + 1) (40 + 2 * (i + 1)) (i + 1) m v 2000 (codes "2000") later (omega (arith, lt))
    (omega arith) word_2000 number_2000 (omega arith) ready))

-- ---- each has a transfer

abbrev transfer_text : ℕ → Bool → ℕ → ℕ → List ℕ
transfer_text a b x y =
    (if b then codes "get " ++ ((decimal a ++ end_words b) ++ (32 ∷ decimal x)) else codes "put " ++
    ((decimal a ++ end_words b) ++ (codes " fill " ++ (decimal x ++ (32 ∷ decimal y)))))
    ++ codes "\norder d 100\n"

get_text_is : (a x y : ℕ) → lined (codes "get") (decimal a ∷ end_list true (decimal x ∷ []))
    ++ lined (codes "order") (codes "d" ∷ codes "100" ∷ []) ≡ transfer_text a true x y
get_text_is a x y = simp append_assoc refl

put_text_is : (a x y : ℕ) → lined (codes "put") (decimal a ∷ end_list false (codes "fill" ∷ decimal x ∷ decimal y ∷ []))
    ++ lined (codes "order") (codes "d" ∷ codes "100" ∷ []) ≡ transfer_text a false x y
put_text_is a x y = simp append_assoc refl

get_plain : (a x : ℕ) → a ≤ 20 → x ≤ 9000 → IsPlain (codes "get") (decimal a ∷ end_list true (decimal x ∷ []))
get_plain a x ha hx = record {
  first = word_get;
  words = (decimal_is_word a (omega (arith, ha)), end_words_are true (decimal x ∷ []) (decimal_is_word x (omega (arith, hx)), tt));
  few = omega arith;
  says = refl;
}

put_plain : (a x y : ℕ) → a ≤ 20 → x ≤ 9000 → y < 256
    → IsPlain (codes "put") (decimal a ∷ end_list false (codes "fill" ∷ decimal x ∷ decimal y ∷ []))
put_plain a x y ha hx hy = record { first = word_put; words = filled_words a x y false ha hx hy; few = omega arith; says = refl }

module _ (ds : List ℕ) (i n : ℕ) (w : Draft) (lt : i < 40) (le : 2 ≤ n) (h : IsReady ds (120 + 2 * i) 40 w) where
  count_is_small : 120 + 2 * i ≤ 200
  count_is_small = omega (arith, lt)

  then_order : (v : Draft) (m : ℕ) → 2 ≤ m → IsReady ds (120 + 2 * i + 1) 40 v
      → Reads (IsReady ds (120 + 2 * (i + 1)) 40) v m 1 (lined (codes "order") (codes "d" ∷ codes "100" ∷ []))
  then_order v m later ready =
      reads_order ds (120 + 2 * i + 1) (120 + 2 * (i + 1)) 40 m v 100 (codes "100") later (omega (arith, lt))
      (omega arith) word_100 number_100 (omega arith) ready

  next_transfer_as : (b : Bool) → is_in i ≡ b
      → Reads (IsReady ds (120 + 2 * (i + 1)) 40) w n 2 (transfer_text (address i) b (length_of ds i) (seed_of ds i))
  next_transfer_as true e =
      let x = length_of ds i in
      let hx = length_small ds i in
      let a : address i ≤ 20 = omega (arith, lt) in
      let plain = get_plain (address i) x a hx in
      reads_same (IsReady ds (120 + 2 * (i + 1)) 40) w n 2 _ (transfer_text (address i) true x (seed_of ds i))
      (get_text_is (address i) x (seed_of ds i))
      (reads_both (IsReady ds (120 + 2 * i + 1) 40) (IsReady ds (120 + 2 * (i + 1)) 40) w n 1 1 2 _ _ refl
      (reads_line (IsReady ds (120 + 2 * i + 1) 40) w (after w n (says.Get (record { name = load_name i; len = x; by = None }))) n
      (codes "get") _
      (says.Get (record { name = load_name i; len = x; by = None })) le plain
      (line_is w n (codes "get") _ F.Get form.Get
      (says.Get (record { name = load_name i; len = x; by = None })) le plain h.version refl refl
      (get_fits (address i) (omega (arith, a)) x (omega (arith, hx)))
      (get_value (address i) (omega (arith, a)) x (omega (arith, hx))
      ∙ ap (λ c. says.Get (record { name = ep_name (address i) c; len = x; by = None })) (sym e)))
      (get_no_cause ds (120 + 2 * i) 40 w h i lt count_is_small x hx) refl
      (subst (IsReady ds (120 + 2 * i + 1) 40) (sym (gets_it ds (120 + 2 * i) 40 w h i lt count_is_small n x))
      (got_is_ready ds (120 + 2 * i) 40 w h i lt count_is_small n x hx)))
      then_order)
  next_transfer_as false e =
      let x = length_of ds i in
      let y = seed_of ds i in
      let hx = length_small ds i in
      let hy = seed_small ds i in
      let a : address i ≤ 20 = omega (arith, lt) in
      let plain = put_plain (address i) x y a hx hy in
      reads_same (IsReady ds (120 + 2 * (i + 1)) 40) w n 2 _ (transfer_text (address i) false x y) (put_text_is (address i) x y)
      (reads_both (IsReady ds (120 + 2 * i + 1) 40) (IsReady ds (120 + 2 * (i + 1)) 40) w n 1 1 2 _ _ refl
      (reads_line (IsReady ds (120 + 2 * i + 1) 40) w
      (after w n (says.Put (record { name = load_name i; content = content.Fill x y; by = None }))) n (codes "put") _
      (says.Put (record { name = load_name i; content = content.Fill x y; by = None })) le plain
      (line_is w n (codes "put") _ F.Put form.PutFill
      (says.Put (record { name = load_name i; content = content.Fill x y; by = None })) le plain h.version refl refl
      (put_fits (address i) (omega (arith, a)) x (omega (arith, hx)) y hy)
      (put_value (address i) (omega (arith, a)) x (omega (arith, hx)) y hy
      ∙ ap (λ c. says.Put (record { name = ep_name (address i) c; content = content.Fill x y; by = None })) (sym e)))
      (put_no_cause ds (120 + 2 * i) 40 w h i lt count_is_small x y hx) refl
      (subst (IsReady ds (120 + 2 * i + 1) 40) (sym (puts_it ds (120 + 2 * i) 40 w h i lt count_is_small n x y))
      (put_is_ready ds (120 + 2 * i) 40 w h i lt count_is_small n x y hx)))
      then_order)

  next_transfer : Reads (IsReady ds (120 + 2 * (i + 1)) 40) w n 2 (piece parts.Transfers ds i)
  next_transfer = next_transfer_as (is_in i) refl

-- ---- the whole text

-- each endpoint was opened once
abbrev pub OpensAll : List ℕ → Draft → Type 0
OpensAll ds w = opens_of w.lines ≡ map (load_desc ds) (range_with_len 0 40)

micro_plain : IsPlain (codes "order") (codes "m" ∷ codes "4000" ∷ [])
micro_plain = record { first = word_order; words = (word_m, (word_4000, tt)); few = omega arith; says = refl }

microframes_read : (ds : List ℕ) (n : ℕ) (w : Draft) → 2 ≤ n → IsReady ds 200 40 w → Reads (OpensAll ds) w n 1 (codes "order m 4000\n")
microframes_read ds n w le h =
    reads_line (OpensAll ds) w (after w n (says.Micro 4000)) n (codes "order") (codes "m" ∷ codes "4000" ∷ [])
    (says.Micro 4000) le micro_plain
    (line_is w n (codes "order") (codes "m" ∷ codes "4000" ∷ []) F.Order form.OrderM (says.Micro 4000) le micro_plain h.version refl refl
    (order_m_fits 4000 (codes "4000") number_4000 (omega arith)) (order_m_value 4000 (codes "4000") number_4000))
    (micro_no_cause ds 200 40 w h 4000 (omega arith)) refl (micro_is_ready ds 200 40 w h n 4000)

module _ (ds : List ℕ) where
  transfers_read : (n : ℕ) (w : Draft) → 2 ≤ n → IsReady ds 120 40 w
      → Reads (OpensAll ds) w n 81 (part_text parts.Transfers ds 40 ++ codes "order m 4000\n")
  unfolding part_text
  transfers_read n w le h =
      reads_both (IsReady ds 200 40) (OpensAll ds) w n 80 1 81 _ _ refl
      (reads_pieces (λ i w. IsReady ds (120 + 2 * i) 40 w) (piece parts.Transfers ds) 40 2
      (λ i n w lt le h. next_transfer ds i n w lt le h) 40 0 80 n w refl refl le h)
      (λ v m later ready. microframes_read ds m v later ready)

  opens_read : (n : ℕ) (w : Draft) → 2 ≤ n → IsReady ds 40 0 w
      → Reads (OpensAll ds) w n 161 (part_text parts.Opens ds 40 ++ (part_text parts.Transfers ds 40 ++ codes "order m 4000\n"))
  unfolding part_text
  opens_read n w le h =
      reads_both (IsReady ds 120 40) (OpensAll ds) w n 80 81 161 _ _ refl
      (reads_pieces (λ i w. IsReady ds (40 + 2 * i) i w) (piece parts.Opens ds) 40 2
      (λ i n w lt le h. next_open ds i n w lt le h) 40 0 80 n w refl refl le h)
      (λ v m later ready. transfers_read m v later ready)

  replies_read : (n : ℕ) (w : Draft) → 2 ≤ n → IsReplying ds 0 w
      → Reads (OpensAll ds) w n 201
      (part_text parts.Replies ds 40 ++ (part_text parts.Opens ds 40 ++ (part_text parts.Transfers ds 40 ++ codes "order m 4000\n")))
  unfolding part_text
  replies_read n w le h =
      reads_both (IsReplying ds 40) (OpensAll ds) w n 40 161 201 _ _ refl
      (reads_pieces (IsReplying ds) (piece parts.Replies ds) 40 1 (λ i n w lt le h. next_reply ds i n w lt le h) 40 0 40 n w refl refl le h)
      (λ v m later replying. opens_read m v later replying.ready)

  endpoints_read : (n : ℕ) (w : Draft) → 2 ≤ n → IsDeclaring ds 0 w
      → Reads (OpensAll ds) w n 241
      (part_text parts.Endpoints ds 40 ++
      (part_text parts.Replies ds 40 ++ (part_text parts.Opens ds 40 ++ (part_text parts.Transfers ds 40 ++ codes "order m 4000\n"))))
  unfolding part_text
  endpoints_read n w le h =
      reads_both (IsDeclaring ds 40) (OpensAll ds) w n 40 201 241 _ _ refl
      (reads_pieces (IsDeclaring ds) (piece parts.Endpoints ds) 40 1
      (λ i n w lt le h. next_endpoint ds i n w lt le h) 40 0 40 n w refl refl le h)
      (λ v m later declared. replies_read m v later (record { ready = ready ds v declared; idle = declared.idle }))

  abbrev behind_head : List ℕ
  behind_head =
      part_text parts.Devices ds 20
      ++ (part_text parts.Endpoints ds 40 ++
      (part_text parts.Replies ds 40 ++ (part_text parts.Opens ds 40 ++ (part_text parts.Transfers ds 40 ++ codes "order m 4000\n"))))

  devices_read : Reads (OpensAll ds) start 5 261 behind_head
  unfolding part_text
  devices_read =
      reads_both (λ w. w ≡ placed 20) (OpensAll ds) start 5 20 241 261 _ _ refl
      (reads_pieces (λ i w. w ≡ placed i) (piece parts.Devices ds) 20 1
      (λ i n w lt le h. one_device i n w lt le h) 20 0 20 5 start refl refl (omega arith) placed_first)
      (λ v m later is. endpoints_read m v later (subst (IsDeclaring ds 0) (sym is) (devices_declared ds)))
    where
      one_device : (i n : ℕ) (w : Draft) → i < 20 → 2 ≤ n → w ≡ placed i → Reads (λ v. v ≡ placed (i + 1)) w n 1 (device_line (i + 1))
      one_device i n w lt le is =
          subst (λ u. Reads (λ v. v ≡ placed (i + 1)) u n 1 (device_line (i + 1))) (sym is)
          (subst (λ j. Reads (λ v. v ≡ placed j) (placed i) n 1 (device_line j)) (sym (add-one i)) (next_device i n lt le))

  -- the draft that the text leaves
  pub record IsRead (text : List ℕ) : Type 0 where
    pub draft : Draft
    pub opens : OpensAll ds draft
    pub read : text_read text ≡ Ok draft

  last_line : (w : Draft) (n : ℕ) → 2 ≤ n → lines_read w n ([] ∷ []) ≡ Ok w
  last_line w n le =
      ap (λ b. onward n (if b then version_read w [] else Ok w) (λ v. lines_read v (n + 1) [])) (ne_eqb n 1 (λ e. omega (arith, le, e)))

  pub all_read : IsRead (all_parts ds)
  all_read =
      let r = devices_read in
      record {
        draft = r.draft;
        opens = r.holds;
        read =
            cond-false (nat_lt 1048576 (length (all_parts ds))) _ _
            (le-ltb 1048576 (length (all_parts ds))
            (omega (arith, r.size, length-append (codes "ehci 1\nmem 262144\nhub 101 5\nhub 102 5\n") behind_head)))
            ∙ ap (λ t. lines_read empty 1 (lines_in (codes "ehci 1\nmem 262144\nhub 101 5\nhub 102 5\n" ++ t)))
            (sym (append-nil behind_head))
            ∙ head_read (behind_head ++ []) ∙ r.reads [] ∙ last_line r.draft r.line r.later;
      }

-- the text of each number spells a script
pub load_texts_have_no_fault : (n : ℕ) → first_fault (load_text n) ≡ None
unfolding script_read
load_texts_have_no_fault n = ap (λ r. result_err (script_after r)) (all_read (draws n 90)).read

-- which opens each endpoint once
pub load_scripts_open_all : (n : ℕ) (s : Script) → Spells (load_text n) s
    → opens_of s.lines ≡ map (load_desc (draws n 90)) (range_with_len 0 40)
unfolding script_read
load_scripts_open_all n s e =
    let r = all_read (draws n 90) in
    let is : Ok (script_of r.draft) ≡ Ok s = sym (ap script_after r.read) ∙ e in
    subst (λ (t : Script). opens_of t.lines ≡ map (load_desc (draws n 90)) (range_with_len 0 40)) (same_ok is) r.opens
  where
    same_ok : {a b : Script} → ◌≡◌ {A = Result Script (ℕ × TextWhy)} (Ok a) (Ok b) → a ≡ b
    same_ok e = cc
