-- Calls of other ports leave a port's translator, and its own calls make of it what they make of one alone.
use Rattle.std.proofs.Common.{◌≡◌, ℕ, zero, suc, ◌-◌, ◌<◌, ◌≤◌, Bool, true, false, List, [], ◌∷◌, ◌++◌, slice_get, replicate, Option, Some, None, Result, Ok, Err, IfOk, refl, sym, ◌∙◌, ap, subst, arith}
use Rattle.std.specs.Prelude.{◌==◌, is_some, if◌then◌else◌}
use Rattle.std.specs.Option.{option_map_or}
use Rattle.std.proofs.lemmas.Bool.{eqb-true, eqb-false}
use Rattle.usb_base.specs.declared.packets.Ask.{Ask}
use Rattle.usb_base.specs.declared.packets.Reply.{Reply}
use Rattle.usb_base.specs.declared.packets.Reply.TheVariants.{Silent}
use Rattle.multi_tt.specs.Translators.{Translator, Translators, opening, opening_of, translator_at, changed_at}
use Rattle.multi_tt.specs.Single.{started, start_answer, completed, complete_answer, cleared, silence}
use Rattle.multi_tt.specs.Calls.{Call, Start, Complete, Work, Clear, Reset, HubCall, Starts, Completes, Works, Clears, Resets, after, answer, listed, played, answers, port_of, hub_after, hub_answer, hub_played, only_one, put_first, only, answer_at, answers_at}
use Rattle.multi_tt.specs.Laws.{IsLikeOne}
use Rattle.multi_tt.proofs.Places.{found, changed_here, changed_beside, worked_here}

abbrev after_if : Option Call → Translator → Translator
after_if None t = t
after_if (Some call) t = after call t

abbrev answer_if : Option Call → Translator → Option Reply
answer_if None t = None
answer_if (Some call) t = answer call t

next_played : (o : Option Call) (calls : List Call) (t : Translator) → played (put_first o calls) t ≡ played calls (after_if o t)
next_played None calls t = refl
next_played (Some call) calls t = refl

next_answers : (o : Option Call) (calls : List Call) (t : Translator)
    → answers (put_first o calls) t ≡ listed (answer_if o t) ++ answers calls (after_if o t)
next_answers None calls t = refl
next_answers (Some call) calls t = refl

-- what a call does to a port with one translator
record IsStep (port : ℕ) (call : HubCall) (ts : Translators) (t : Translator) : Type 0 where
  part : translator_at port (hub_after call ts) ≡ Some (after_if (only_one port call) t)
  answer : listed (answer_at port call ts) ≡ listed (answer_if (only_one port call) t)

-- a call that names port q
named_part : (b : Bool) (port q : ℕ) (call : Call) (f : Translator → Translator) (ts : Translators) (t : Translator) → (q == port) ≡ b
    → ts.multi ≡ true → translator_at port ts ≡ Some t → after call t ≡ f t
    → translator_at port (changed_at q f ts) ≡ Some (after_if (if b then Some call else None) t)
named_part true port q call f ts t is multi there same =
    subst (λ (n : ℕ). translator_at port (changed_at n f ts) ≡ Some (after call t)) (sym (eqb-true q port is))
    (changed_here port f ts t multi there ∙ ap Some (sym same))
named_part false port q call f ts t is multi there same = changed_beside port q f ts t multi there (eqb-false q port is)

asked_answer : (b : Bool) (port q : ℕ) (call : Call) (g : Translator → Reply) (ts : Translators) (t : Translator) → (q == port) ≡ b
    → translator_at port ts ≡ Some t → answer call t ≡ Some (g t)
    → listed (if is_some (if b then Some call else None) then Some (option_map_or g (translator_at q ts) Silent) else None) ≡ listed (answer_if (if b then Some call else None) t)
asked_answer true port q call g ts t is there same =
    ap (λ (n : ℕ). listed (Some (option_map_or g (translator_at n ts) Silent))) (eqb-true q port is)
    ∙ ap (λ (o : Option Translator). listed (Some (option_map_or g o Silent))) there
    ∙ ap listed (sym same)
asked_answer false port q call g ts t is there same = refl

no_answer : (b : Bool) (call : Call) (t : Translator) → answer call t ≡ None
    → listed (if is_some (if b then Some call else None) then None else None) ≡ listed (answer_if (if b then Some call else None) t)
no_answer true call t none = ap listed (sym none)
no_answer false call t none = refl

step : (port : ℕ) (call : HubCall) (ts : Translators) (t : Translator) → ts.multi ≡ true → translator_at port ts ≡ Some t
    → IsStep port call ts t
step port (Starts ask bytes stuff) ts t multi there = record {
  part = named_part (port_of ask.split == port) port (port_of ask.split) (Start ask bytes stuff) (started ask bytes stuff) ts t refl multi there refl;
  answer = asked_answer (port_of ask.split == port) port (port_of ask.split) (Start ask bytes stuff) (start_answer ask) ts t refl there refl;
}
step port (Completes ask) ts t multi there = record {
  part = named_part (port_of ask.split == port) port (port_of ask.split) (Complete ask) (completed ask) ts t refl multi there refl;
  answer = asked_answer (port_of ask.split == port) port (port_of ask.split) (Complete ask) (complete_answer ask) ts t refl there refl;
}
step port (Works frindex heard) ts t multi there = record { part = worked_here port frindex heard ts t multi there; answer = refl }
step port (Clears q key) ts t multi there = record {
  part = named_part (q == port) port q (Clear key) (cleared key) ts t refl multi there refl;
  answer = no_answer (q == port) (Clear key) t refl;
}
step port (Resets q) ts t multi there = record {
  part = named_part (q == port) port q Reset (λ x. opening) ts t refl multi there refl;
  answer = no_answer (q == port) Reset t refl;
}

still_multi : (call : HubCall) (ts : Translators) → (hub_after call ts).multi ≡ ts.multi
still_multi (Starts ask bytes stuff) ts = refl
still_multi _ ts = refl

pub ports_apart : (port : ℕ) (calls : List HubCall) (ts : Translators) → ts.multi ≡ true → (t : Translator)
    → translator_at port ts ≡ Some t → IsLikeOne port calls ts t
ports_apart port [] ts multi t there = record { part = there; answers = refl }
ports_apart port (call ∷ calls) ts multi t there =
    let o : Option Call = only_one port call in
    let s = step port call ts t multi there in
    let r = ports_apart port calls (hub_after call ts) (still_multi call ts ∙ multi) (after_if o t) s.part in
    record {
      part = r.part ∙ ap Some (sym (next_played o (only port calls) t));
      answers =
          ap (λ (xs : List Reply). xs ++ answers_at port calls (hub_after call ts)) s.answer
          ∙ ap (λ (xs : List Reply). listed (answer_if o t) ++ xs) r.answers
          ∙ sym (next_answers o (only port calls) t);
    }

-- ---- from the opening

slice_replicate : (n i : ℕ) (t : Translator) → i < n → slice_get (replicate n t) i ≡ Some t
slice_replicate zero i t h = absurd (omega arith)
slice_replicate (suc n) zero t h = refl
slice_replicate (suc n) (suc i) t h = slice_replicate n i t (omega arith)

pub each_port : (ports : ℕ) (calls : List HubCall) (ts : Translators) → ts ≡ hub_played calls (opening_of ports true)
    → (port : ℕ) → 1 ≤ port → port ≤ ports → translator_at port ts ≡ Some (played (only port calls) opening)
each_port ports calls ts is port low high =
    ap (translator_at port) is
    ∙ (ports_apart port calls (opening_of ports true) refl opening
    (found port (opening_of ports true) opening refl low (slice_replicate ports (port - 1) opening (omega arith)))).part

pub ok_each : {E : Type 0} (ports : ℕ) (calls : List HubCall) (r : Result Translators E) → IfOk r (λ ts. ts ≡ hub_played calls (opening_of ports true))
    → IfOk r (λ ts. (port : ℕ) → 1 ≤ port → port ≤ ports → translator_at port ts ≡ Some (played (only port calls) opening))
ok_each ports calls (Ok ts) is = each_port ports calls ts is
ok_each ports calls (Err e) is = tt
