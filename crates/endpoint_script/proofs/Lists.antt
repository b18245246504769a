-- Lists of which a front part is over, and the packets and requests among items.
use Rattle.std.proofs.Common.{◌≡◌, ℕ, zero, suc, ◌+◌, ◌<◌, Bool, true, false, cond, List, [], ◌∷◌, ◌++◌, length, drop, take, map, get_or, set, subst, refl, ap, sym, ◌∙◌, arith, add-one, Option, Some, None}
use Rattle.std.proofs.lemmas.Grind.{common_steps}
use Rattle.std.proofs.lemmas.List.{take_more}
use Rattle.std.proofs.lemmas.List.Elements.{filter_map-append}
use Rattle.std.specs.Prelude.{IsTrue, filter_map}
use Rattle.std.specs.List.{list_all}
use Rattle.std.specs.Option.{option_to_list}
use Rattle.script_types.specs.declared.devices.Item.{Item}
use Rattle.script_types.specs.declared.devices.Item.TheVariants.{Bytes, Nak, Nyet, Stall, Request, Epoch}
use Rattle.endpoint_script.specs.Items.{rest_of, is_short, is_packet, packets_of}
use Rattle.endpoint_script.specs.Resets.{is_epoch, next_epoch}

-- one more is over
pub rest_of_dropped : {A : Type 0} (xs : List A) (n : ℕ) → n < length xs → rest_of (drop n xs) ≡ drop (n + 1) xs
rest_of_dropped [] n h = absurd (grind arith)
rest_of_dropped (x ∷ xs) zero h = refl
rest_of_dropped (x ∷ xs) (suc n) h = rw (add-one (suc n)) (rest_of_dropped xs n (omega (arith, h)) ∙ rw (add-one n) refl)

-- what holds of all holds of the rest
pub all_of_rest : {A : Type 0} (p : A → Bool) (xs : List A) → IsTrue (list_all p xs) → IsTrue (list_all p (rest_of xs))
all_of_rest p [] h = h
all_of_rest p (x ∷ xs) h = grind arith

-- the value of one item, as a list, comes after those of the items before it
given_at_end : {A B : Type 0} (f : A → Option B) (x : A) (o : Option B) → f x ≡ o → filter_map f (x ∷ []) ≡ option_to_list (f x)
given_at_end f x None h = rw h refl
given_at_end f x (Some y) h = rw h refl

at_end : {A B : Type 0} (f : A → Option B) (xs : List A) (n : ℕ) (d : A) → n < length xs → filter_map f (take (n + 1) xs) ≡ filter_map f (take n xs) ++ option_to_list (f (get_or xs n d))
at_end f xs n d h = ap (filter_map f) (take_more xs n d h) ∙ filter_map-append f (take n xs) (get_or xs n d ∷ []) ∙ ap (λ ys. filter_map f (take n xs) ++ ys) (given_at_end f (get_or xs n d) (f (get_or xs n d)) refl)

pub filter_map_more : {A B : Type 0} (f : A → Option B) (xs : List A) (n : ℕ) (x : A) → n < length xs → x ≡ get_or xs n x → filter_map f (take (n + 1) xs) ≡ filter_map f (take n xs) ++ option_to_list (f x)
filter_map_more f xs n x h e = at_end f xs n x h ∙ ap (λ y. filter_map f (take n xs) ++ option_to_list (f y)) (sym e)

-- the packets among short items are short
pub short_packets : (items : List Item) → IsTrue (list_all is_short items) → IsTrue (list_all is_packet (packets_of items))
short_packets [] h = h
short_packets (Bytes bytes ∷ items) h = let rest : IsTrue (list_all is_packet (packets_of items)) = short_packets items (grind arith) in grind arith
short_packets (Nak n ∷ items) h = short_packets items h
short_packets (Nyet ∷ items) h = short_packets items h
short_packets (Stall ∷ items) h = short_packets items h
short_packets (Request setup bytes ∷ items) h = short_packets items h
short_packets (Epoch ∷ items) h = short_packets items h

-- ---- a list whose first n items have become f of them

length-partly : {A : Type 0} (f : A → A) (xs : List A) (n : ℕ) → length (map f (take n xs) ++ drop n xs) ≡ length xs
length-partly f [] n = grind (arith, common_steps)
length-partly f (x ∷ xs) zero = refl
length-partly f (x ∷ xs) (suc n) = let rest : length (map f (take n xs) ++ drop n xs) ≡ length xs = length-partly f xs n in grind (arith, common_steps)

get_or-partly : {A : Type 0} (f : A → A) (xs : List A) (n : ℕ) (d : A) → get_or (map f (take n xs) ++ drop n xs) n d ≡ get_or xs n d
get_or-partly f [] zero d = refl
get_or-partly f [] (suc n) d = refl
get_or-partly f (x ∷ xs) zero d = refl
get_or-partly f (x ∷ xs) (suc n) d = get_or-partly f xs n d

set-partly : {A : Type 0} (f : A → A) (xs : List A) (n : ℕ) (d : A) → n < length xs → set (map f (take n xs) ++ drop n xs) n (f (get_or xs n d)) ≡ map f (take (suc n) xs) ++ drop (suc n) xs
set-partly f [] n d h = absurd (grind arith)
set-partly f (x ∷ xs) zero d h = refl
set-partly f (x ∷ xs) (suc n) d h = ap (λ ys. f x ∷ ys) (set-partly f xs n d (omega (arith, h)))

-- the next item becomes f of it
pub one_more_becomes : {A : Type 0} (f : A → A) (xs ys : List A) (n : ℕ) (x : A) → ys ≡ map f (take n xs) ++ drop n xs → n < length ys → x ≡ get_or ys n x → set ys n (f x) ≡ map f (take (n + 1) xs) ++ drop (n + 1) xs
one_more_becomes f xs ys n x is h e =
    let inside : n < length xs = subst (λ m. n < m) (ap length is ∙ length-partly f xs n) h in
    let item : x ≡ get_or xs n x = e ∙ ap (λ zs. get_or zs n x) is ∙ get_or-partly f xs n x in
    rw (is, add-one n) (ap (λ y. set (map f (take n xs) ++ drop n xs) n (f y)) item ∙ set-partly f xs n x inside)

-- ---- the next epoch

-- it begins behind the first item, or behind a later one
pub epoch_found : (items rest : List Item) (x : Item) → items ≡ x ∷ rest → is_epoch x ≡ true → next_epoch items ≡ rest
unfolding next_epoch
epoch_found items rest x is found = ap next_epoch is ∙ ap (λ b. cond b rest (next_epoch rest)) found

pub epoch_later : (items rest : List Item) (x : Item) → items ≡ x ∷ rest → is_epoch x ≡ false → next_epoch items ≡ next_epoch rest
unfolding next_epoch
epoch_later items rest x is other = ap next_epoch is ∙ ap (λ b. cond b rest (next_epoch rest)) other

pub epoch_none : (items : List Item) → items ≡ [] → next_epoch items ≡ []
unfolding next_epoch
epoch_none items is = ap next_epoch is
