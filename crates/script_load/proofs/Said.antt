-- What each line of a load script says.
use Rattle.std.proofs.Common.{◌≡◌, ℕ, ◌+◌, ◌*◌, ◌<◌, ◌≤◌, ◌^◌, Bool, true, false, List, [], ◌∷◌, ◌++◌, length, Option, Some, None, Result, Ok, Err, refl, sym, ap, ◌∙◌, subst, arith}
use Rattle.std.specs.Prelude.{codes, nat_le, ◌==◌}
use Rattle.std.specs.Fmt.{digits, decimal}
use Rattle.std.specs.List.{AllByRecursion, fold}
use Rattle.std.proofs.lemmas.Bool.{le-leb, eq-eqb, cond-true}
use Rattle.usb_base.specs.declared.packets.Way.{Way}
use Rattle.usb_base.specs.declared.packets.Way.TheVariants as way
use Rattle.usb_base.specs.declared.packets.Speed.TheVariants as speed
use Rattle.usb_base.specs.declared.packets.EpKind.TheVariants as kind
use Rattle.script_types.specs.declared.scripts.Event.TheVariants as event
use Rattle.script_forms.specs.declared.table.FirstWord.{FirstWord}
use Rattle.script_forms.specs.declared.table.FirstWord.TheVariants as F
use Rattle.script_forms.specs.declared.table.Form.{Form}
use Rattle.script_forms.specs.declared.table.Form.TheVariants as form
use Rattle.script_forms.specs.declared.statements.Name.{Name}
use Rattle.script_forms.specs.declared.statements.EpLine.{EpLine}
use Rattle.script_forms.specs.declared.statements.Content.TheVariants as content
use Rattle.script_forms.specs.declared.statements.Answer.TheVariants as answers
use Rattle.script_forms.specs.declared.statements.Statement.{Statement}
use Rattle.script_forms.specs.declared.statements.Statement.TheVariants as says
use Rattle.script_forms.specs.Syntax.{number_of, hex_of}
use Rattle.script_forms.specs.declared.causes.TextWhy.TheVariants as C
use Rattle.script_forms.specs.declared.fitting.Mark.{Mark}
use Rattle.script_forms.specs.Table.{first_in, forms_of, slots_of}
use Rattle.script_forms.specs.Fitting.{form_of, verdict, held, further, marked, all_ranged}
use Rattle.script_forms.specs.Values.{statement_of}
use Rattle.script_forms.proofs.Decimals.{number_of_decimal}
use Rattle.script_world.specs.Draft.{Draft}
use Rattle.script_world.specs.Rows.{is_late}
use Rattle.script_text.specs.Reading.{said, line_read, says as says_any}
use Rattle.script_load.proofs.Spaced.{IsWord, IsPlain, spaced, decimal_is_word, line_says}

-- ---- numbers

pub number_1 : number_of (codes "1") ≡ Some 1
unfolding number_of digits
number_1 = refl

pub number_2 : number_of (codes "2") ≡ Some 2
unfolding number_of digits
number_2 = refl

pub number_8 : number_of (codes "8") ≡ Some 8
unfolding number_of digits
number_8 = refl

pub number_64 : number_of (codes "64") ≡ Some 64
unfolding number_of digits
number_64 = refl

pub number_512 : number_of (codes "512") ≡ Some 512
unfolding number_of digits
number_512 = refl

pub number_101 : number_of (codes "101") ≡ Some 101
unfolding number_of digits
number_101 = refl

pub number_102 : number_of (codes "102") ≡ Some 102
unfolding number_of digits
number_102 = refl

-- ---- words

-- the number and the way of an endpoint
abbrev pub num_of : Bool → ℕ
num_of true = 1
num_of false = 2

abbrev pub way_of : Bool → Way
way_of true = way.In
way_of false = way.Out

abbrev pub ep_name : ℕ → Bool → Name
ep_name a b = record { addr = a; num = num_of b; way = way_of b }

abbrev pub end_list : Bool → List (List ℕ) → List (List ℕ)
end_list true ws = codes "1" ∷ codes "in" ∷ ws
end_list false ws = codes "2" ∷ codes "out" ∷ ws

-- the hub of a device behind one, which is the first for port numbers that count from device 11
abbrev pub hub_text : Bool → List ℕ
hub_text true = codes "101"
hub_text false = codes "102"

abbrev pub hub_number : Bool → ℕ
hub_number true = 101
hub_number false = 102

-- ---- which form

-- the mark that is furthest is of this form, which all words fit and keep the ranges of
is_form : (ws : List (List ℕ)) (m : Mark) (f : Form) → m.at ≡ length ws → m.form ≡ f → all_ranged (slots_of f) ws ≡ true
    → verdict ws (Some m) ≡ Ok f
is_form ws m f at is ranged =
    cond-true (m.at == length ws) _ _ (eq-eqb m.at (length ws) at)
    ∙ cond-true (all_ranged (slots_of m.form) ws) (Ok m.form) (Err C.Range) (ap (λ g. all_ranged (slots_of g) ws) is ∙ ranged)
    ∙ ap Ok is

fits_as : (first : FirstWord) (ws : List (List ℕ)) (m : Mark) (f : Form) → fold (held ws) None (forms_of 1 first) ≡ Some m
    → m.at ≡ length ws → m.form ≡ f
    → all_ranged (slots_of f) ws ≡ true → form_of 1 first ws ≡ Ok f
unfolding form_of
fits_as first ws m f e at is ranged = ap (verdict ws) e ∙ is_form ws m f at is ranged

module _ (a : ℕ) (h : a < 1000000) where
  pub na : number_of (decimal a) ≡ Some a
  na = number_of_decimal a (omega (arith, h))

  pub low : nat_le 0 a ≡ true
  low = le-leb 0 a (omega arith)

  pub high : nat_le a 4294967295 ≡ true
  high = le-leb a 4294967295 (omega (arith, h))

  pub open_fits : (b : Bool) → form_of 1 F.Open (decimal a ∷ end_list b []) ≡ Ok form.Open
  unfolding form_of
  open_fits true = rw (na, number_1, low, high) refl
  open_fits false = rw (na, number_2, low, high) refl

  pub open_value : (b : Bool) → statement_of form.Open (decimal a ∷ end_list b []) ≡ says.Open (ep_name a b)
  unfolding statement_of
  open_value true = rw (na, number_1) refl
  open_value false = rw (na, number_2) refl

  pub high_fits : 1 ≤ a → a ≤ 127 → form_of 1 F.Dev (decimal a ∷ codes "high" ∷ []) ≡ Ok form.DevHigh
  unfolding form_of
  high_fits from to = rw (na, le-leb 1 a from, le-leb a 127 to) refl

  pub high_value : statement_of form.DevHigh (decimal a ∷ codes "high" ∷ []) ≡ says.DevHigh a
  unfolding statement_of
  high_value = rw na refl

  pub bulk_512_fits : (b : Bool) → form_of 1 F.Ep (decimal a ∷ end_list b (codes "bulk" ∷ codes "512" ∷ [])) ≡ Ok form.EpBulk
  bulk_512_fits true =
      let ws = decimal a ∷ end_list true (codes "bulk" ∷ codes "512" ∷ []) in
      fits_as F.Ep ws (further (marked form.EpControl ws) (marked form.EpBulk ws)) form.EpBulk refl (rw (na, number_1, number_512) refl)
      (rw (na, number_1, number_512) refl)
      (rw (na, number_1, number_512, low, high) refl)
  bulk_512_fits false =
      let ws = decimal a ∷ end_list false (codes "bulk" ∷ codes "512" ∷ []) in
      fits_as F.Ep ws (further (marked form.EpControl ws) (marked form.EpBulk ws)) form.EpBulk refl (rw (na, number_2, number_512) refl)
      (rw (na, number_2, number_512) refl)
      (rw (na, number_2, number_512, low, high) refl)

  pub bulk_64_fits : (b : Bool) → form_of 1 F.Ep (decimal a ∷ end_list b (codes "bulk" ∷ codes "64" ∷ [])) ≡ Ok form.EpBulk
  bulk_64_fits true =
      let ws = decimal a ∷ end_list true (codes "bulk" ∷ codes "64" ∷ []) in
      fits_as F.Ep ws (further (marked form.EpControl ws) (marked form.EpBulk ws)) form.EpBulk refl (rw (na, number_1, number_64) refl)
      (rw (na, number_1, number_64) refl)
      (rw (na, number_1, number_64, low, high) refl)
  bulk_64_fits false =
      let ws = decimal a ∷ end_list false (codes "bulk" ∷ codes "64" ∷ []) in
      fits_as F.Ep ws (further (marked form.EpControl ws) (marked form.EpBulk ws)) form.EpBulk refl (rw (na, number_2, number_64) refl)
      (rw (na, number_2, number_64) refl)
      (rw (na, number_2, number_64, low, high) refl)

  pub bulk_512_value : (b : Bool) → statement_of form.EpBulk (decimal a ∷ end_list b (codes "bulk" ∷ codes "512" ∷ []))
      ≡ says.Ep (record { name = ep_name a b; kind = kind.Bulk; max = 512; period = 0; multi = 1 })
  unfolding statement_of
  bulk_512_value true = rw (na, number_1, number_512) refl
  bulk_512_value false = rw (na, number_2, number_512) refl

  pub bulk_64_value : (b : Bool) → statement_of form.EpBulk (decimal a ∷ end_list b (codes "bulk" ∷ codes "64" ∷ []))
      ≡ says.Ep (record { name = ep_name a b; kind = kind.Bulk; max = 64; period = 0; multi = 1 })
  unfolding statement_of
  bulk_64_value true = rw (na, number_1, number_64) refl
  bulk_64_value false = rw (na, number_2, number_64) refl

  -- with a second number
  module _ (x : ℕ) (k : x < 65536) where
    pub nx : number_of (decimal x) ≡ Some x
    nx = number_of_decimal x (omega (arith, k))

    pub x_low : nat_le 0 x ≡ true
    x_low = le-leb 0 x (omega arith)

    pub x_high : nat_le x 4294967295 ≡ true
    x_high = le-leb x 4294967295 (omega (arith, k))

    pub full_fits : (b : Bool) → 1 ≤ a → a ≤ 127
        → form_of 1 F.Dev (decimal a ∷ codes "full" ∷ hub_text b ∷ decimal x ∷ []) ≡ Ok form.DevFull
    full_fits true from to =
        let ws = decimal a ∷ codes "full" ∷ hub_text true ∷ decimal x ∷ [] in
        fits_as F.Dev ws (further (marked form.DevFull ws) (marked form.DevLow ws)) form.DevFull refl (rw (na, nx, number_101) refl)
        (rw (na, nx, number_101) refl)
        (rw (na, nx, number_101, le-leb 1 a from, le-leb a 127 to, x_low, x_high) refl)
    full_fits false from to =
        let ws = decimal a ∷ codes "full" ∷ hub_text false ∷ decimal x ∷ [] in
        fits_as F.Dev ws (further (marked form.DevFull ws) (marked form.DevLow ws)) form.DevFull refl (rw (na, nx, number_102) refl)
        (rw (na, nx, number_102) refl)
        (rw (na, nx, number_102, le-leb 1 a from, le-leb a 127 to, x_low, x_high) refl)

    pub full_value : (b : Bool) → statement_of form.DevFull (decimal a ∷ codes "full" ∷ hub_text b ∷ decimal x ∷ [])
        ≡ says.DevBelow (record { addr = a; speed = speed.Full; hub = hub_number b; port = x })
    unfolding statement_of
    full_value true = rw (na, nx, number_101) refl
    full_value false = rw (na, nx, number_102) refl

    pub interrupt_fits : form_of 1 F.Ep (decimal a ∷ end_list true (codes "interrupt" ∷ codes "8" ∷ decimal x ∷ codes "1" ∷ []))
        ≡ Ok form.EpInterrupt
    interrupt_fits =
        let ws = decimal a ∷ end_list true (codes "interrupt" ∷ codes "8" ∷ decimal x ∷ codes "1" ∷ []) in
        fits_as F.Ep ws (further (marked form.EpInterrupt ws) (marked form.EpIso ws)) form.EpInterrupt refl
        (rw (na, nx, number_1, number_8) refl) (rw (na, nx, number_1, number_8) refl)
        (rw (na, nx, number_1, number_8, low, high, x_low, x_high) refl)

    pub interrupt_value : statement_of form.EpInterrupt (decimal a ∷ end_list true (codes "interrupt" ∷ codes "8" ∷ decimal x ∷
        codes "1" ∷ []))
        ≡ says.Ep (record { name = ep_name a true; kind = kind.Interrupt; max = 8; period = x; multi = 1 })
    unfolding statement_of
    interrupt_value = rw (na, nx, number_1, number_8) refl

    pub get_fits : form_of 1 F.Get (decimal a ∷ end_list true (decimal x ∷ [])) ≡ Ok form.Get
    unfolding form_of
    get_fits = rw (na, nx, number_1, low, high, x_low, le-leb x 65535 (omega (arith, k))) refl

    pub get_value : statement_of form.Get (decimal a ∷ end_list true (decimal x ∷ []))
        ≡ says.Get (record { name = ep_name a true; len = x; by = None })
    unfolding statement_of
    get_value = rw (na, nx, number_1) refl

    -- and a third
    module _ (y : ℕ) (l : y < 256) where
      pub ny : number_of (decimal y) ≡ Some y
      ny = number_of_decimal y (omega (arith, l))

      pub y_low : nat_le 0 y ≡ true
      y_low = le-leb 0 y (omega arith)

      pub y_high : nat_le y 255 ≡ true
      y_high = le-leb y 255 (omega (arith, l))

      pub reply_fits : form_of 1 F.Reply (decimal a ∷ end_list true (codes "fill" ∷ decimal x ∷ decimal y ∷ [])) ≡ Ok form.ReplyFill
      unfolding hex_of
      reply_fits =
          let ws = decimal a ∷ end_list true (codes "fill" ∷ decimal x ∷ decimal y ∷ []) in
          fits_as F.Reply ws (further (marked form.ReplyFill ws) (marked form.ReplyRequest ws)) form.ReplyFill refl
          (rw (na, nx, ny, number_1) refl) (rw (na, nx, ny, number_1) refl)
          (rw (na, nx, ny, number_1, low, high, x_low, le-leb x 65536 (omega (arith, k)), y_low, y_high) refl)

      pub reply_value : statement_of form.ReplyFill (decimal a ∷ end_list true (codes "fill" ∷ decimal x ∷ decimal y ∷ []))
          ≡ says.Reply (ep_name a true) (answers.Fill x y)
      unfolding statement_of
      reply_value = rw (na, nx, ny, number_1) refl

      pub put_fits : form_of 1 F.Put (decimal a ∷ end_list false (codes "fill" ∷ decimal x ∷ decimal y ∷ [])) ≡ Ok form.PutFill
      unfolding hex_of
      put_fits =
          let ws = decimal a ∷ end_list false (codes "fill" ∷ decimal x ∷ decimal y ∷ []) in
          fits_as F.Put ws (further (marked form.PutBy ws) (marked form.PutFill ws)) form.PutFill refl (rw (na, nx, ny, number_2) refl)
          (rw (na, nx, ny, number_2) refl)
          (rw (na, nx, ny, number_2, low, high, x_low, le-leb x 65535 (omega (arith, k)), y_low, y_high) refl)

      pub put_value : statement_of form.PutFill (decimal a ∷ end_list false (codes "fill" ∷ decimal x ∷ decimal y ∷ []))
          ≡ says.Put (record { name = ep_name a false; content = content.Fill x y; by = None })
      unfolding statement_of
      put_value = rw (na, nx, ny, number_2) refl

-- steps are ordered, and microframes
abbrev order_marks : List ℕ → List ℕ → Mark
order_marks event w =
    further (further (marked form.OrderD (event ∷ w ∷ [])) (marked form.OrderC (event ∷ w ∷ []))) (marked form.OrderM (event ∷ w ∷ []))

pub order_d_fits : (n : ℕ) (w : List ℕ) → number_of w ≡ Some n → n < 1000000 → form_of 1 F.Order (codes "d" ∷ w ∷ []) ≡ Ok form.OrderD
order_d_fits n w e h =
    fits_as F.Order (codes "d" ∷ w ∷ []) (order_marks (codes "d") w) form.OrderD refl (rw e refl) (rw e refl)
    (rw (e, low n h, high n h) refl)

pub order_m_fits : (n : ℕ) (w : List ℕ) → number_of w ≡ Some n → n < 1000000 → form_of 1 F.Order (codes "m" ∷ w ∷ []) ≡ Ok form.OrderM
order_m_fits n w e h =
    fits_as F.Order (codes "m" ∷ w ∷ []) (order_marks (codes "m") w) form.OrderM refl (rw e refl) (rw e refl)
    (rw (e, low n h, high n h) refl)

pub order_d_value : (n : ℕ) (w : List ℕ) → number_of w ≡ Some n → statement_of form.OrderD (codes "d" ∷ w ∷ []) ≡ says.Order event.D n
unfolding statement_of
order_d_value n w e = rw e refl

pub order_m_value : (n : ℕ) (w : List ℕ) → number_of w ≡ Some n → statement_of form.OrderM (codes "m" ∷ w ∷ []) ≡ says.Micro n
unfolding statement_of
order_m_value n w e = rw e refl

-- ---- lines are plain

pub word_dev : IsWord (codes "dev")
word_dev = record { inner = refl; some = refl; short = omega arith }

pub word_ep : IsWord (codes "ep")
word_ep = record { inner = refl; some = refl; short = omega arith }

pub word_reply : IsWord (codes "reply")
word_reply = record { inner = refl; some = refl; short = omega arith }

pub word_open : IsWord (codes "open")
word_open = record { inner = refl; some = refl; short = omega arith }

pub word_get : IsWord (codes "get")
word_get = record { inner = refl; some = refl; short = omega arith }

pub word_put : IsWord (codes "put")
word_put = record { inner = refl; some = refl; short = omega arith }

pub word_order : IsWord (codes "order")
word_order = record { inner = refl; some = refl; short = omega arith }

pub word_fill : IsWord (codes "fill")
word_fill = record { inner = refl; some = refl; short = omega arith }

pub word_high : IsWord (codes "high")
word_high = record { inner = refl; some = refl; short = omega arith }

pub word_full : IsWord (codes "full")
word_full = record { inner = refl; some = refl; short = omega arith }

pub word_bulk : IsWord (codes "bulk")
word_bulk = record { inner = refl; some = refl; short = omega arith }

pub word_interrupt : IsWord (codes "interrupt")
word_interrupt = record { inner = refl; some = refl; short = omega arith }

pub word_512 : IsWord (codes "512")
word_512 = record { inner = refl; some = refl; short = omega arith }

pub word_64 : IsWord (codes "64")
word_64 = record { inner = refl; some = refl; short = omega arith }

pub word_8 : IsWord (codes "8")
word_8 = record { inner = refl; some = refl; short = omega arith }

pub word_1 : IsWord (codes "1")
word_1 = record { inner = refl; some = refl; short = omega arith }

pub word_d : IsWord (codes "d")
word_d = record { inner = refl; some = refl; short = omega arith }

pub word_m : IsWord (codes "m")
word_m = record { inner = refl; some = refl; short = omega arith }

pub word_2000 : IsWord (codes "2000")
word_2000 = record { inner = refl; some = refl; short = omega arith }

pub word_100 : IsWord (codes "100")
word_100 = record { inner = refl; some = refl; short = omega arith }

pub word_4000 : IsWord (codes "4000")
word_4000 = record { inner = refl; some = refl; short = omega arith }

pub hub_word : (b : Bool) → IsWord (hub_text b)
hub_word true = record { inner = refl; some = refl; short = omega arith }
hub_word false = record { inner = refl; some = refl; short = omega arith }

-- an end has words
pub end_words_are : (b : Bool) (ws : List (List ℕ)) → AllByRecursion IsWord ws → AllByRecursion IsWord (end_list b ws)
end_words_are true ws h = (word_1, (record { inner = refl; some = refl; short = omega arith }, h))
end_words_are false ws h =
    (record { inner = refl; some = refl; short = omega arith }, (record { inner = refl; some = refl; short = omega arith }, h))
