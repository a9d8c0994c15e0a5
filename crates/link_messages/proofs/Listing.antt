-- Items that are shown, one after another.
use Rattle.std.proofs.Common.{ℕ, ◌-◌, Bool, true, ◌&&◌, List, [], ◌∷◌, ◌++◌, length, refl, sym, ap₂, subst, ◌∙◌}
use Rattle.std.specs.List.{flat_map, list_all, AllZip, AllByRecursion}
pub use Rattle.std.proofs.Math.Bool.{and-true as and_true, and-false as and_false}
use Rattle.std.proofs.lemmas.List.{append-nil}
use Rattle.std.proofs.lemmas.List.Folds.{list_all-append}
use Rattle.std.proofs.lemmas.Grind.{flat_map-append}
use Rattle.link_base.specs.declared.wire.buffer.NlaBuffer.{NlaBuffer}
use Rattle.link_base.specs.Buffer.{SplitsFirst}
use Rattle.link_messages.specs.Walk.{Item, Walks}
use Rattle.link_messages.proofs.Walking.{walks_more}
use Rattle.link_messages.specs.Shown.{EachShown}

-- ---- several items

zip_push : {A B : Type 0} (R : A → B → Type 0) (xs : List A) (ys : List B) (x : A) (y : B) → AllZip R xs ys → R x y → AllZip R (xs ++ x ∷ []) (ys ++ y ∷ [])
zip_push R [] [] x y h here = (here, tt)
zip_push R [] (b ∷ ys) x y h here = absurd h
zip_push R (a ∷ xs) [] x y h here = absurd h
zip_push R (a ∷ xs) (b ∷ ys) x y h here = (h.0, zip_push R xs ys x y h.1 here)

pub each_none : {X Y : Type 0} (shows : X → List Y → Bool → Type 0) → EachShown shows [] [] true
each_none shows = record { answers = []; each = tt; joined = refl; all = refl }

-- one more
pub each_more : {X Y : Type 0} (shows : X → List Y → Bool → Type 0) (xs : List X) (out : List Y) (x : X) (written : List Y) (whole well : Bool) → EachShown shows xs out whole → shows x written well
    → EachShown shows (xs ++ x ∷ []) (out ++ written) (whole && well)
each_more shows xs out x written whole well s h =
    record {
      answers = s.answers ++ (written, well) ∷ [];
      each = zip_push (λ y a. shows y a.0 a.1) xs s.answers x (written, well) s.each h;
      joined = ap₂ (λ a b. a ++ b) s.joined (sym (append-nil written)) ∙ sym (flat_map-append (λ a. a.0) s.answers ((written, well) ∷ []));
      all = ap₂ (λ a b. a && b) s.all (sym (and_true well)) ∙ sym (list_all-append (λ a. a.1) s.answers ((written, well) ∷ []));
    }

pub all_any : {X : Type 0} (xs : List X) → AllByRecursion (λ x. Unit {0}) xs
all_any [] = tt
all_any (x ∷ xs) = (tt, all_any xs)

-- what holds of the output for each item holds of that for all, if it holds of outputs that are joined
module _ {X Y : Type 0} (P : X → Type 0) (shows : X → List Y → Bool → Type 0) (Q : List Y → Bool → Type 0) (none : Q [] true)
    (both : (a b : List Y) (v w : Bool) → Q a v → Q b w → Q (a ++ b) (v && w)) (one : (x : X) (out : List Y) (well : Bool) → P x → shows x out well → Q out well) where
  answers_hold : (xs : List X) (answers : List (List Y × Bool)) → AllByRecursion P xs → AllZip (λ x a. shows x a.0 a.1) xs answers → Q (flat_map (λ a. a.0) answers) (list_all (λ a. a.1) answers)
  answers_hold [] [] h k = none
  answers_hold [] (a ∷ answers) h k = absurd k
  answers_hold (x ∷ xs) [] h k = absurd k
  answers_hold (x ∷ xs) (a ∷ answers) h k = both a.0 (flat_map (λ a. a.0) answers) a.1 (list_all (λ a. a.1) answers) (one x a.0 a.1 h.0 k.0) (answers_hold xs answers h.1 k.1)

  pub each_hold : (xs : List X) (out : List Y) (whole : Bool) → AllByRecursion P xs → EachShown shows xs out whole → Q out whole
  each_hold xs out whole h s = subst (λ o. Q o whole) (sym s.joined) (subst (Q (flat_map (λ a. a.0) s.answers)) (sym s.all) (answers_hold xs s.answers h s.each))

-- ---- loops

-- the outputs for the items that lead so far were added
pub record ShownTo {W X Y : Type 0} (Adds : W → W → List Y → Type 0) (shows : X → List Y → Bool → Type 0) (Leads : List X → Type 0) (old new : W) (whole : Bool) : Type 0 where
  pub items : List X
  pub leads : Leads items
  pub out : List Y
  pub each : EachShown shows items out whole
  pub written : Adds old new out

pub shown_none : {W X Y : Type 0} {Adds : W → W → List Y → Type 0} (shows : X → List Y → Bool → Type 0) (Leads : List X → Type 0) (w : W) → Leads [] → Adds w w [] → ShownTo Adds shows Leads w w true
shown_none shows Leads w l a = record { items = []; leads = l; out = []; each = each_none shows; written = a }

-- one more
pub shown_more : {W X Y : Type 0} {Adds : W → W → List Y → Type 0} {shows : X → List Y → Bool → Type 0} {Leads : List X → Type 0} (Next : List X → Type 0) (x : X) (out : List Y) (old mid new : W) (whole well : Bool)
    → ((s t : List Y) → Adds old mid s → Adds mid new t → Adds old new (s ++ t)) → ((xs : List X) → Leads xs → Next (xs ++ x ∷ [])) → ShownTo Adds shows Leads old mid whole → shows x out well → Adds mid new out
    → ShownTo Adds shows Next old new (whole && well)
shown_more {shows = shows} Next x out old mid new whole well more next h shown written =
    record {
      items = h.items ++ x ∷ [];
      leads = next h.items h.leads;
      out = h.out ++ out;
      each = each_more shows h.items h.out x out whole well h.each shown;
      written = more h.out out h.written written;
    }

-- ---- lists

-- these attributes lead from a list to its rest
abbrev pub LeadTo : List ℕ → List ℕ → List Item → Type 0
LeadTo list rest items = Walks (length list) list items rest

pub lead_on : (list rest next : List ℕ) (b : NlaBuffer) → SplitsFirst rest b next → (items : List Item) → LeadTo list rest items → LeadTo list next (items ++ (length list - length rest, b) ∷ [])
lead_on list rest next b split items w = walks_more (length list) list items rest b next w split
