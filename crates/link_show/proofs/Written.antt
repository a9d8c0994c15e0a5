-- What a loop has written so far.
use Rattle.std.proofs.Common.{◌≡◌, ℕ, List, [], ◌∷◌, ◌++◌, refl, sym, ap, subst, ◌∙◌, append_assoc}
use Rattle.link_show.specs.Sink.{Output, Gains}
use Rattle.std.proofs.lemmas.List.{drop_more, drop_all}
use Rattle.link_show.specs.Gained.{gains_nothing, gains_more}
use Rattle.link_show.specs.Text.{after}

-- the front of a text was written, and this is its rest
pub record WritesFront (old new : Output) (text rest : List ℕ) : Type 0 where
  pub front : List ℕ
  pub written : Gains old new front
  pub whole : text ≡ front ++ rest

-- nothing was written yet
pub none_written : (w : Output) (text : List ℕ) → WritesFront w w text text
none_written w text = record { front = []; written = gains_nothing w; whole = refl }

-- one text more was written
pub one_written : (old mid new : Output) (text rest t others : List ℕ) → WritesFront old mid text rest → rest ≡ t ++ others → Gains mid new t → WritesFront old new text others
one_written old mid new text rest t others w e a =
    record {
      front = w.front ++ t;
      written = gains_more old mid new w.front t w.written a;
      whole = w.whole ∙ ap (λ r. w.front ++ r) e ∙ sym (append_assoc w.front t others);
    }

-- of texts with separators, one more was written, and a separator stands before the next
pub next_written : (old mid new : Output) (text first next separator t : List ℕ) (texts others : List (List ℕ))
    → WritesFront old mid text (after first separator texts) → texts ≡ t ∷ others → Gains mid new (first ++ t) → next ≡ separator
    → WritesFront old new text (after next separator others)
next_written old mid new text first next separator t texts others w e a n =
    subst (λ s. WritesFront old new text (after s separator others)) (sym n)
    (one_written old mid new text (after first separator texts) (first ++ t) (after separator separator others) w
    (ap (after first separator) e ∙ sym (append_assoc first t (after separator separator others))) a)

-- likewise, if the separator and the text were written apart
pub next_two : (old mid more new : Output) (text first next separator t : List ℕ) (texts others : List (List ℕ)) → WritesFront old mid text (after first separator texts) → Gains mid more first
    → Gains more new t → texts ≡ t ∷ others → next ≡ separator → WritesFront old new text (after next separator others)
next_two old mid more new text first next separator t texts others w p q e n = next_written old mid new text first next separator t texts others w e (gains_more mid more new first t p q) n

-- what the prover tries in a loop over texts with separators
pub ruleset next_steps = (next_written, next_two, drop_more, drop_all)
