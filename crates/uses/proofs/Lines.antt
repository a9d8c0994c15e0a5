-- Lines, printed one after another.
use Rattle.std.proofs.Common.{◌≡◌, ℕ, ◌<◌, List, [], ◌∷◌, ◌++◌, length, map, Option, None, Some, refl, sym, ap, subst, ◌∙◌, arith, append_assoc, length-append}
use Rattle.std.specs.Prelude.{◌==◌, not, filter, IfSome, IsSome}
use Rattle.std.specs.List.{flat_map}
use Rattle.std.specs.Io.KnownBytes.{Appends}
use Rattle.std.proofs.lemmas.List.{append-nil, length-map}
use Rattle.std.proofs.lemmas.Grind.{flat_map-append}
use Rattle.netlink_packet_route.specs.Report.{line}
use Rattle.netlink_packet_route.specs.Table.{Table, AttrValue, Gives}
use Rattle.netlink_packet_route.specs.Frame.{bytes_of_frames}
use Rattle.netlink_packet_route.specs.Wire.{FirstFault}
use Rattle.netlink_packet_route.proofs.Rewritten.{no_more_values}
use Rattle.netlink_packet_route.specs.declared.link.DecodeFault.{DecodeFault}
use Rattle.uses.specs.Printing.{AreTextsOf, IsFront, IsTextOf, last_line, PrintsList, PrintsLines}

pub none_written : (a : Option (List ℕ)) → Appends a a []
none_written None = tt
none_written (Some s) = sym (append-nil s)

-- some bytes, and then others
appends_both : (a b c : Option (List ℕ)) (x y : List ℕ) → Appends a b x → Appends b c y → Appends a c (x ++ y)
appends_both None b c x y h k = tt
appends_both (Some s) None c x y h k = absurd h
appends_both (Some s) (Some t) None x y h k = absurd k
appends_both (Some s) (Some t) (Some u) x y h k = k ∙ ap (λ l. l ++ y) h ∙ append_assoc s x y

pub no_line : {X : Type 0} (debug : X → Option (List ℕ)) (a : Option (List ℕ)) → PrintsLines debug [] a a
no_line debug a = ([], tt, none_written a)

texts_more : {X : Type 0} (debug : X → Option (List ℕ)) (vs : List X) (words : List (List ℕ)) (v : X) (text : List ℕ) → AreTextsOf debug vs words → IsTextOf (debug v) text
    → AreTextsOf debug (vs ++ v ∷ []) (words ++ text ∷ [])
texts_more debug [] [] v text h is = (is, tt)
texts_more debug [] (w ∷ words) v text h is = absurd h
texts_more debug (x ∷ vs) [] v text h is = absurd h
texts_more debug (x ∷ vs) (w ∷ words) v text h is = (h.0, texts_more debug vs words v text h.1 is)

pub one_more : {X : Type 0} (debug : X → Option (List ℕ)) (vs : List X) (v : X) (a b c : Option (List ℕ)) (words : List ℕ) → PrintsLines debug vs a b → IsTextOf (debug v) words → Appends b c (line words)
    → PrintsLines debug (vs ++ v ∷ []) a c
one_more debug vs v a b c words h is w =
    let text : flat_map line h.0 ++ line words ≡ flat_map line (h.0 ++ words ∷ []) =
    sym (flat_map-append line h.0 (words ∷ []) ∙ ap (λ l. flat_map line h.0 ++ l) (append-nil (line words))) in (
      h.0 ++ words ∷ [],
      texts_more debug vs h.0 v words h.1 is,
      subst (Appends a c) text (appends_both a b c (flat_map line h.0) (line words) h.2 w),
    )

-- the text of a value, of what was written for it
pub text_of : (written : Option (List ℕ)) (all text : List ℕ) → IfSome written (λ w. all ≡ w) → text ≡ filter (λ b. not (b == 10)) all → IfSome written (λ w. text ≡ filter (λ b. not (b == 10)) w)
text_of None all text h k = tt
text_of (Some w) all text h k = k ∙ ap (filter (λ b. not (b == 10))) h

-- the values, and then the fault
pub printed : {X : Type 0} (table : Table) (s : List ℕ) (means : X → AttrValue) (debug : X → Option (List ℕ)) (vs shown : List X) (fault : Option (ℕ × DecodeFault)) (a b c : Option (List ℕ))
    → IsFront table s (map means vs) fault → shown ≡ vs → PrintsLines debug shown a b → Appends b c (last_line fault) → PrintsList table means debug s a c
printed table s means debug vs shown fault a b c front same h w = (
  flat_map line h.0 ++ last_line fault,
  record {
    values = vs;
    fault = fault;
    front = front;
    words = h.0;
    each = subst (λ xs. AreTextsOf debug xs h.0) same h.1;
    text = refl;
  },
  appends_both a b c (flat_map line h.0) (last_line fault) h.2 w,
)

-- ---- a list with an error or a value is not empty

has_bytes : (table : Table) (s : List ℕ) (at : ℕ) (fault : DecodeFault) → FirstFault (Gives table) s at fault → 0 < length s
has_bytes table s at fault f = omega (arith, f.some, ap length f.string, length-append (bytes_of_frames f.front) f.rest)

pub fault_has_bytes : (table : Table) (s : List ℕ) (vs : List AttrValue) (fault : Option (ℕ × DecodeFault)) → IsFront table s vs fault → IsSome fault → 0 < length s
fault_has_bytes table s vs None front some = absurd cc
fault_has_bytes table s vs (Some f) front some = has_bytes table s f.0 f.1 front.0

pub value_has_bytes : {X : Type 0} (table : Table) (s : List ℕ) (means : X → AttrValue) (vs shown : List X) (fault : Option (ℕ × DecodeFault)) → IsFront table s (map means vs) fault → shown ≡ vs → 0 < length shown → 0 < length s
value_has_bytes table s means vs shown None front same some = omega (arith, some, ap length same, length-map vs means, no_more_values (Gives table) s (map means vs) front)
value_has_bytes table s means vs shown (Some f) front same some = has_bytes table s f.0 f.1 front.0
