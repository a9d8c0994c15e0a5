-- Equality tests that compare everything a value means: a derived `==`, variant by variant and field by field.
use Rattle.std.specs.Prelude.{◌≡◌, ℕ, ℤ, nat_eq, string_eq, string_bytes, ◌==◌, ◌&&◌, Bool, true, false, List, [], ◌∷◌, ◌++◌, map, Option, Some, None}
use Rattle.std.specs.Bool.{beq}
use Rattle.std.specs.Int.{w32, cast_unsigned}
use Rattle.std.specs.Option.{option_eq}
use Rattle.std.specs.Ordering.{int_eq}
use Rattle.std.specs.Cmp.{first_so, second_so, unsigned_Decides, signed_Decides, booleans_Decides}
use Rattle.std.specs.Cmp.Derive.{of_values}
use Rattle.std.specs.Cmp.Lexicographic.{pointwise, pointwise_decides}
use Rattle.std.proofs.Common.{refl, sym, ap, ap₂, ◌∙◌, true≢false, inl, inr, Vec}
use Rattle.std.specs.Global.{Global}
use Rattle.std.specs.declared.string.String.{String}
use denote.Struct.Field.{Field}
use denote.Struct.Values.{Values}
use denote.Enum.Declared.{Record, Choice, declared}
use denote.Enum.Bare.{sameb}
use denote.Enum.Compared.{Each, by}
use Rattle.link_base.specs.declared.rows.default_nla.DefaultNla.{DefaultNla}
use Rattle.link_base.specs.declared.classes.peer.Peer.{Peer}
use Rattle.link_base.specs.declared.names.vlan_protocol.VlanProtocol.{VlanProtocol}
use Rattle.link_base.specs.declared.names.vlan_protocol.VlanProtocol.TheVariants.{Ieee8021Q, Ieee8021Ad}
use Rattle.link_base.specs.contracts.names.vlan_protocol.VlanProtocol.{enum}
use Rattle.link_base.specs.Table.{Leaf, AttrValue, Case, Other, Single, Inner, Listed}
use Rattle.std.specs.declared.net.ipv4_addr.Ipv4Addr.{Ipv4Addr}
use Rattle.std.specs.declared.net.ipv6_addr.Ipv6Addr.{Ipv6Addr}
use Rattle.std.specs.Net.Addr.{octets_of}
use Rattle.link_base.specs.IpAddress.{sized, four_octets, sixteen_octets}
use Rattle.link_base.specs.Layout.{octets_of as written_numbers, octets_by}
use Rattle.link_base.specs.Lift.{lift}
use Rattle.link_base.specs.Class.{Raw}
use Rattle.link_base.specs.Default.{default_means}
use Rattle.link_base.specs.Peer.{peer_octets}

-- values that are equal by the test have the same meaning
pub record IsThorough {K M : Type 0} (eq : K → K → Bool) (means : K → M) : Type 0 where
  pub same : (a b : K) → eq a b ≡ true → means a ≡ means b

-- ---- enums

-- the same, for the fields of one variant
abbrev pub CaseThorough : {M : Type 0} (Fs : List Field) → (Values Fs → Values Fs → Bool) → (Values Fs → M) → Type 0
CaseThorough [] eq means = Unit {0}
CaseThorough (F ∷ []) eq means = IsThorough (λ x y. eq (x, tt) (y, tt)) (λ x. means (x, tt))
CaseThorough (F ∷ G ∷ []) eq means = IsThorough {K = F.Value × G.Value} (λ x y. eq (x.0, (x.1, tt)) (y.0, (y.1, tt))) (λ x. means (x.0, (x.1, tt)))
CaseThorough (F ∷ G ∷ H ∷ Fs) eq means = IsThorough eq means

fields : {M : Type 0} (Fs : List Field) (eq : Values Fs → Values Fs → Bool) (means : Values Fs → M) → CaseThorough Fs eq means
    → (a b : Values Fs) → eq a b ≡ true → means a ≡ means b
fields [] eq means h a b e = refl
fields (F ∷ []) eq means h a b e = h.same a.0 b.0 e
fields (F ∷ G ∷ []) eq means h a b e = h.same (a.0, a.1.0) (b.0, b.1.0) e
fields (F ∷ G ∷ H ∷ Fs) eq means h a b e = h.same a b e

-- the same, for each variant
abbrev pub EachThorough : {M : Type 0} (Fss : List (List Field)) → Each Bool Fss → (Choice Fss → M) → Type 0
EachThorough [] eqs means = Unit {0}
EachThorough (Fs ∷ Fss) eqs means = CaseThorough Fs eqs.0 (λ x. means (inl x)) × EachThorough Fss eqs.1 (λ c. means (inr c))

choices : {M : Type 0} (Fss : List (List Field)) (eqs : Each Bool Fss) (means : Choice Fss → M) → EachThorough Fss eqs means
    → (c d : Choice Fss) → by false false Fss eqs c d ≡ true → means c ≡ means d
choices [] eqs means h c d e = absurd c
choices (Fs ∷ Fss) eqs means h (inl x) (inl y) e = fields Fs eqs.0 (λ z. means (inl z)) h.0 x y e
choices (Fs ∷ Fss) eqs means h (inr c) (inr d) e = choices Fss eqs.1 (λ z. means (inr z)) h.1 c d e
choices (Fs ∷ Fss) eqs means h (inl x) (inr d) e = absurd (true≢false (sym e))
choices (Fs ∷ Fss) eqs means h (inr c) (inl y) e = absurd (true≢false (sym e))

-- the proofs for twenty-five variants of an enum, and those for the variants after them: one search for all takes too long
pub twenty_five : {A B C D E F G H I J K L M N O P Q R S T U V W X Y Others : Type 0}
    → A × (B × (C × (D × (E × (F × (G × (H × (I × (J × (K × (L × (M × (N × (O × (P × (Q × (R × (S × (T × (U × (V × (W × (X × (Y × Unit {0}))))))))))))))))))))))))
    → Others
    → A × (B × (C × (D × (E × (F × (G × (H × (I × (J × (K × (L × (M × (N × (O × (P × (Q × (R × (S × (T × (U × (V × (W × (X × (Y × Others))))))))))))))))))))))))
twenty_five
    (a, (b, (c, (d, (e, (f, (g, (h, (i, (j, (k, (l, (m, (n, (o, (p, (q, (r, (s, (t, (u, (v, (w, (x, (y, _)))))))))))))))))))))))))
    others =
    (a, (b, (c, (d, (e, (f, (g, (h, (i, (j, (k, (l, (m, (n, (o, (p, (q, (r, (s, (t, (u, (v, (w, (x, (y, others)))))))))))))))))))))))))

-- the derived test of an enum is thorough if the test of each variant is
pub of_cases : (N : Record) (eqs : Each Bool N.parts) {M : Type 0} (means : N.D → M) → EachThorough N.parts eqs (λ c. means (N.make c))
    → IsThorough (of_values N false false eqs) means
of_cases N eqs means h = record {
  same = λ a b e. ap means (sym (N.eta a)) ∙ choices N.parts eqs (λ c. means (N.make c)) h (N.as_values a) (N.as_values b) e ∙ ap means (N.eta b);
}

-- ---- fields

-- values that are equal by the test are identical, and so have the same meaning
pub anything : {K M : Type 0} {eq : K → K → Bool} {means : K → M} → IsThorough eq (λ (a : K). a) → IsThorough eq means
anything {means = means} h = record { same = λ a b e. ap means (h.same a b e) }

pub numbers : IsThorough ◌==◌ (λ (n : ℕ). n)
numbers = record { same = λ a b. (unsigned_Decides a b).0 }

pub integers : IsThorough int_eq (λ (z : ℤ). z)
integers = record { same = λ a b. (signed_Decides a b).0 }

pub truths : IsThorough beq (λ (b : Bool). b)
truths = record { same = λ a b. (booleans_Decides a b).0 }

-- flags, each without a byte or with a boolean
same_optional : (a b : Option Bool) → option_eq beq a b ≡ true → a ≡ b
same_optional None None e = refl
same_optional None (Some y) e = absurd (true≢false (sym e))
same_optional (Some x) None e = absurd (true≢false (sym e))
same_optional (Some x) (Some y) e = ap Some ((booleans_Decides x y).0 e)

pub optional_truths : IsThorough (option_eq beq) (λ (flag : Option Bool). flag)
optional_truths = record { same = same_optional }

pub octets : IsThorough (pointwise nat_eq) (λ (bytes : List ℕ). bytes)
octets = record { same = λ a b. (pointwise_decides unsigned_Decides a b).0 }

-- an `nla_type` and a payload
pub defaults : {V : Type 0} → IsThorough (λ (a b : DefaultNla). a.kind == b.kind && pointwise nat_eq a.value b.value) (default_means {V = V})
defaults = record {
  same = λ a b e. ap₂ (λ f p. Other f p) (numbers.same a.kind b.kind (first_so (a.kind == b.kind) (pointwise nat_eq a.value b.value) e))
      (octets.same a.value b.value (second_so (a.kind == b.kind) (pointwise nat_eq a.value b.value) e));
}

-- strings
pub texts : IsThorough string_eq (λ (t : String Global). string_bytes t)
texts = record { same = λ a b e. octets.same (string_bytes a) (string_bytes b) e }

-- a header, and a list
pub peers : {k : ℕ} → IsThorough (λ (a b : Peer). pointwise nat_eq a.header b.header && pointwise nat_eq a.attributes.items b.attributes.items)
    (λ (a : Peer). Case k (Single (Raw (peer_octets a))))
peers {k} = record {
  same = λ a b e.
      let first = first_so (pointwise nat_eq a.header b.header) (pointwise nat_eq a.attributes.items b.attributes.items) e in
      let second = second_so (pointwise nat_eq a.header b.header) (pointwise nat_eq a.attributes.items b.attributes.items) e in
      ap₂ (λ header list. Case k (Single (Raw (header ++ list)))) (octets.same a.header b.header first)
      (octets.same a.attributes.items b.attributes.items second);
}

-- two values, each with its meaning
pub pairs_by : {A B M L : Type 0} {E : A → A → Bool} {F : B → B → Bool} {means : A → M} {others : B → L} → IsThorough E means → IsThorough F others
    → IsThorough {M = M × L} (λ (x y : A × B). E x.0 y.0 && F x.1 y.1) (λ (x : A × B). (means x.0, others x.1))
pairs_by {E = E} {F} h k = record {
  same = λ x y e. ap₂ (λ a b. (a, b)) (h.same x.0 y.0 (first_so (E x.0 y.0) (F x.1 y.1) e)) (k.same x.1 y.1 (second_so (E x.0 y.0) (F x.1 y.1) e));
}

-- two values, each with its test
pub pairs : {A B : Type 0} {E : A → A → Bool} {F : B → B → Bool} → IsThorough E (λ (a : A). a) → IsThorough F (λ (b : B). b)
    → IsThorough (λ (x y : A × B). E x.0 y.0 && F x.1 y.1) (λ (x : A × B). x)
pairs h k = pairs_by h k

-- a struct with one field
pub wrapped : {K J : Type 0} {eq : J → J → Bool} (part : K → J) (wrap : J → K) → ((a : K) → wrap (part a) ≡ a) → IsThorough eq (λ (x : J). x)
    → IsThorough (λ a b. eq (part a) (part b)) (λ (a : K). a)
wrapped part wrap back h = record { same = λ a b e. sym (back a) ∙ ap wrap (h.same (part a) (part b) e) ∙ back b }

-- a part of a value, and the meaning that is made of the part's meaning
pub through : {K J M L : Type 0} {eq : J → J → Bool} {means : J → M} (part : K → J) (make : M → L) → IsThorough eq means
    → IsThorough (λ a b. eq (part a) (part b)) (λ (a : K). make (means (part a)))
through part make h = record { same = λ a b e. ap make (h.same (part a) (part b) e) }

-- lists, element by element
pub each : {K M : Type 0} {eq : K → K → Bool} {means : K → M} → IsThorough eq means → (xs ys : List K) → pointwise eq xs ys ≡ true → map means xs ≡ map means ys
each h [] [] e = refl
each h [] (y ∷ ys) e = absurd (true≢false (sym e))
each h (x ∷ xs) [] e = absurd (true≢false (sym e))
each {eq = eq} h (x ∷ xs) (y ∷ ys) e = ap₂ (λ v vs. v ∷ vs) (h.same x y (first_so (eq x y) (pointwise eq xs ys) e)) (each h xs ys (second_so (eq x y) (pointwise eq xs ys) e))

-- the inverse of `lift`
abbrev lowered : AttrValue → Leaf
lowered (Case k (Single v)) = Case k v
lowered (Case k content) = Other k []
lowered (Other f p) = Other f p

lowered_back : (l : Leaf) → lowered (lift l) ≡ l
lowered_back (Case k v) = refl
lowered_back (Other f p) = refl

unlifted : {E : Type 0} {eq : E → E → Bool} {leaf : E → Leaf} → IsThorough eq (λ x. lift (leaf x)) → IsThorough eq leaf
unlifted {leaf = leaf} h = record { same = λ a b e. sym (lowered_back (leaf a)) ∙ ap lowered (h.same a b e) ∙ lowered_back (leaf b) }

-- the values of a nested list
pub lists : {E : Type 0} {eq : E → E → Bool} {leaf : E → Leaf} {k : ℕ} {flagged : Bool} → IsThorough eq (λ x. lift (leaf x))
    → IsThorough (λ (xs ys : Vec E Global). pointwise eq xs.items ys.items) (λ xs. Case k (Inner flagged (map leaf xs.items)))
lists {leaf = leaf} {k} {flagged} h = record {
  same = λ xs ys e. ap (λ vs. Case k (Inner flagged vs)) (each (unlifted h) xs.items ys.items e);
}

-- bytes in a vector
pub byte_vectors : {k : ℕ} → IsThorough (λ (xs ys : Vec ℕ Global). pointwise nat_eq xs.items ys.items) (λ xs. Case k (Single (Raw xs.items)))
byte_vectors {k} = record { same = λ xs ys e. ap (λ bytes. Case k (Single (Raw bytes))) (octets.same xs.items ys.items e) }

-- numbers in a vector, `width` bytes each in the payload
number_vectors : {k : ℕ} (width : ℕ) → IsThorough (λ (xs ys : Vec ℕ Global). pointwise nat_eq xs.items ys.items) (λ xs. Case k (Single (Raw (written_numbers width xs.items))))
number_vectors {k} width = record { same = λ xs ys e. ap (λ numbers. Case k (Single (Raw (written_numbers width numbers)))) (octets.same xs.items ys.items e) }

pub u16_vectors : {k : ℕ} → IsThorough (λ (xs ys : Vec ℕ Global). pointwise nat_eq xs.items ys.items) (λ xs. Case k (Single (Raw (written_numbers 2 xs.items))))
u16_vectors = number_vectors 2

pub u32_vectors : {k : ℕ} → IsThorough (λ (xs ys : Vec ℕ Global). pointwise nat_eq xs.items ys.items) (λ xs. Case k (Single (Raw (written_numbers 4 xs.items))))
u32_vectors = number_vectors 4

pub u64_vectors : {k : ℕ} → IsThorough (λ (xs ys : Vec ℕ Global). pointwise nat_eq xs.items ys.items) (λ xs. Case k (Single (Raw (written_numbers 8 xs.items))))
u64_vectors = number_vectors 8

-- signed numbers in a vector, four bytes each in the payload
pub i32_vectors : {k : ℕ} → IsThorough {M = AttrValue} (λ (xs ys : Vec ℤ Global). pointwise int_eq xs.items ys.items)
    (λ xs. Case k (Single (Raw (octets_by 4 (cast_unsigned w32) xs.items))))
i32_vectors {k} = record {
  same = λ xs ys e. ap (λ numbers. Case k (Single (Raw (octets_by 4 (cast_unsigned w32) numbers))))
      ((pointwise_decides signed_Decides xs.items ys.items).0 e);
}

-- IP addresses in a vector
addresses : {A : Type 0} {eq : A → A → Bool} {octets : A → List ℕ} {k : ℕ} → IsThorough eq octets
    → IsThorough (λ (xs ys : Vec A Global). pointwise eq xs.items ys.items) (λ xs. Case k (Listed (map octets xs.items)))
addresses {k = k} h = record { same = λ xs ys e. ap (λ all. Case k (Listed all)) (each h xs.items ys.items e) }

-- the octets of an IPv4 address, and of an IPv6 address
by_four : IsThorough (λ a b. pointwise nat_eq a.octets b.octets) four_octets
by_four = record { same = λ a b e. ap (sized 4) (octets.same a.octets b.octets e) }

by_sixteen : IsThorough (λ a b. pointwise nat_eq a.segments b.segments) sixteen_octets
by_sixteen = record { same = λ a b e. ap (λ segments. sized 16 (octets_of segments)) (octets.same a.segments b.segments e) }

pub four : {k : ℕ} → IsThorough (λ (xs ys : Vec Ipv4Addr Global). pointwise (λ a b. pointwise nat_eq a.octets b.octets) xs.items ys.items) (λ xs. Case k (Listed (map four_octets xs.items)))
four = addresses by_four

pub sixteen : {k : ℕ} → IsThorough (λ (xs ys : Vec Ipv6Addr Global). pointwise (λ a b. pointwise nat_eq a.segments b.segments) xs.items ys.items) (λ xs. Case k (Listed (map sixteen_octets xs.items)))
sixteen = addresses by_sixteen

-- one IP address
pub one_four : {k : ℕ} → IsThorough (λ (a b : Ipv4Addr). pointwise nat_eq a.octets b.octets) (λ a. Case k (Single (Raw (four_octets a))))
one_four {k} = through (λ a. a) (λ octets. Case k (Single (Raw octets))) by_four

pub one_sixteen : {k : ℕ} → IsThorough (λ (a b : Ipv6Addr). pointwise nat_eq a.segments b.segments) (λ a. Case k (Single (Raw (sixteen_octets a))))
one_sixteen {k} = through (λ a. a) (λ octets. Case k (Single (Raw octets))) by_sixteen

-- 802.1Q and 802.1ad
two_protocols : (p q : VlanProtocol) → sameb (declared enum) p q ≡ true → p ≡ q
two_protocols Ieee8021Q Ieee8021Q e = refl
two_protocols Ieee8021Ad Ieee8021Ad e = refl
two_protocols Ieee8021Q Ieee8021Ad e = absurd (true≢false (sym e))
two_protocols Ieee8021Ad Ieee8021Q e = absurd (true≢false (sym e))

pub protocols : IsThorough (sameb (declared enum)) (λ (p : VlanProtocol). p)
protocols = record { same = two_protocols }

-- the lemmas with which `search` proves that the tests of fields are thorough
pub ruleset thorough_fields = (defaults, byte_vectors, peers, u16_vectors, u32_vectors, u64_vectors, i32_vectors, four, sixteen, one_four, one_sixteen, numbers, integers, truths, optional_truths, octets, protocols, lists, anything)
