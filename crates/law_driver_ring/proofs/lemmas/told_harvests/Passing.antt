-- The first qTD that was published and that no short packet passed over is harvested.
use Rattle.std.proofs.Common.{◌≡◌, ◌≢◌, ℕ, true, false, List, [], ◌∷◌, ◌++◌, Some, ap, refl, sym, ◌∙◌, inl, inr}
use Rattle.std.proofs.lemmas.Bool.{false≢true}
use Rattle.qh_qtd.specs.declared.qtd.Qtd.{Qtd}
use Rattle.law_structures.specs.lent_structures.Structures.{Element, StructureSets}
use Rattle.law_structures.proofs.lemmas.lent_structures.Altering.{found_element}
use Rattle.law_ring.specs.Hand.{Hand}
use Rattle.law_ring.specs.Told.{Told}
use Rattle.law_ring.specs.Order.{AreAfter, IsSorted, IsAmong, AllTold, one_out, Accounts}
use Rattle.law_driver_ring.specs.told_harvests.Passed.{IsNoneTold, HarvestsFirst}

-- ---- lists

after_without : (order : ℕ → ℕ) (p e : ℕ) (passed rest : List ℕ) → AreAfter order p (passed ++ e ∷ rest) → AreAfter order p (passed ++ rest)
after_without order p e [] rest k = k.1
after_without order p e (a ∷ rests) rest k = (k.0, after_without order p e rests rest k.1)

sorted_without : (order : ℕ → ℕ) (e : ℕ) (passed rest : List ℕ) → IsSorted order (passed ++ e ∷ rest) → IsSorted order (passed ++ rest)
sorted_without order e [] rest k = k.1
sorted_without order e (a ∷ rests) rest k = (after_without order a e rests rest k.0, sorted_without order e rests rest k.1)

among_with : (a e : ℕ) (passed rest : List ℕ) → IsAmong a (passed ++ rest) → IsAmong a (passed ++ e ∷ rest)
among_with a e [] rest k = inr k
among_with a e (b ∷ bs) rest (inl is) = inl is
among_with a e (b ∷ bs) rest (inr k) = inr (among_with a e bs rest k)

among_without : (a e : ℕ) (passed rest : List ℕ) → a ≢ e → IsAmong a (passed ++ e ∷ rest) → IsAmong a (passed ++ rest)
among_without a e [] rest differs (inl is) = absurd (differs is)
among_without a e [] rest differs (inr k) = k
among_without a e (b ∷ bs) rest differs (inl is) = inl is
among_without a e (b ∷ bs) rest differs (inr k) = inr (among_without a e bs rest differs k)

-- ---- what is told of the others

record Split (hand : Hand) (parts : StructureSets) (n e : ℕ) (others xs : List ℕ) : Type 0 where
  first : List ℕ
  rest : List ℕ
  told : Told hand parts n e first
  all : AllTold hand parts n others rest
  sum : xs ≡ first ++ rest

split_by : (hand : Hand) (parts : StructureSets) (n e : ℕ) (passed rest xs : List ℕ) → IsNoneTold hand parts n passed → AllTold hand parts n (passed ++ e ∷ rest) xs → Split hand parts n e (passed ++ rest) xs
split_by hand parts n e [] rest xs none (one_out b bs x ys told others) = record { first = x; rest = ys; told = told; all = others; sum = refl }
split_by hand parts n e (p ∷ ps) rest xs none (one_out b bs x ys told others) =
    let s : Split hand parts n e (ps ++ rest) ys = split_by hand parts n e ps rest ys (λ a y among. none a y (inr among)) others in
    let nothing : x ≡ [] = none p x (inl refl) told in
    record {
      first = s.first;
      rest = x ++ s.rest;
      told = s.told;
      all = one_out p (ps ++ rest) x s.rest told s.all;
      sum = ap (λ (zs : List ℕ). zs ++ ys) nothing ∙ s.sum ∙ ap (λ (zs : List ℕ). s.first ++ (zs ++ s.rest)) (sym nothing);
    }

pub harvest_takes_first : (order : ℕ → ℕ) (place e : ℕ) (passed rest : List ℕ) (hand : Hand) (parts : StructureSets) (n : ℕ) (xs : List ℕ) (t : Qtd) → parts n e ≡ Some (Element t) → t.token.active ≡ false → IsNoneTold hand parts n passed
    → Accounts order place (passed ++ e ∷ rest) hand parts n xs → HarvestsFirst order place e (passed ++ rest) hand parts n xs
harvest_takes_first order place e passed rest hand parts n xs t here off none acc =
    let s : Split hand parts n e (passed ++ rest) xs = split_by hand parts n e passed rest xs none acc.told in
    record {
      bytes = s.first;
      told = s.told;
      others = s.rest;
      sum = s.sum;
      accounts = record {
        ordered = acc.ordered;
        sorted = sorted_without order e passed rest acc.sorted;
        published = λ a u among there from. acc.published a u (among_with a e passed rest among) there from;
        complete = λ a u there on.
            among_without a e passed rest (λ is. false≢true (sym off ∙ ap (λ (x : Qtd). x.token.active) (found_element (parts n e) t u here (ap (parts n) (sym is) ∙ there)) ∙ on)) (acc.complete a u there on);
        told = s.all;
      };
    }
