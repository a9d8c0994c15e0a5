-- Numbers in network byte order, and their bytes.
use Rattle.std.proofs.Common.{◌≡◌, ℕ, ◌<◌, List, [], ◌∷◌, length, take, reverse, sym, ap, subst, ◌∙◌, arith, take_all}
use Rattle.std.proofs.lemmas.List.{length-reverse, reverse-reverse, reverse-append}
use Rattle.link_base.specs.declared.rows.form.Order.{Order}
use Rattle.link_base.specs.declared.rows.form.Order.TheVariants.{Little, Big}
use Rattle.link_base.specs.Number.{IsBytes, number, bytes_of, bytes_be, bound}
use Rattle.link_base.specs.Orders.{bytes_by}
use Rattle.link_base.proofs.Numbers.{length-bytes_of, IsBytes-bytes_of, number_below, bytes_of-number, number-bytes_of}
use Rattle.link_base.proofs.FrameBytes.{bytes-append}

-- all n bytes of a payload
pub all_taken : (n : ℕ) (p : List ℕ) → length p ≡ n → take n p ≡ p
all_taken n p size = take_all n p (omega (arith, size))

pub bytes_be_len : (n x : ℕ) → length (bytes_be n x) ≡ n
bytes_be_len n x = length-reverse (bytes_of n x) ∙ length-bytes_of n x

pub length-bytes_by : (order : Order) (n x : ℕ) → length (bytes_by order n x) ≡ n
length-bytes_by Little n x = length-bytes_of n x
length-bytes_by Big n x = bytes_be_len n x

bytes-reverse : (bytes : List ℕ) → IsBytes bytes → IsBytes (reverse bytes)
bytes-reverse [] h = tt
bytes-reverse (b ∷ bytes) h = subst IsBytes (sym (reverse-append (b ∷ []) bytes)) (bytes-append (reverse bytes) (b ∷ []) (bytes-reverse bytes h.1) (h.0, tt))

pub bytes_be_octets : (n x : ℕ) → IsBytes (bytes_be n x)
bytes_be_octets n x = bytes-reverse (bytes_of n x) (IsBytes-bytes_of n x)

-- the number of n bytes is below the bound, and has these bytes
pub be_below : (n : ℕ) (p : List ℕ) → IsBytes p → length p ≡ n → number (reverse p) < bound n
be_below n p h size = subst (λ m. number (reverse p) < bound m) (length-reverse p ∙ size) (number_below (reverse p) (bytes-reverse p h))

pub be_back : (n : ℕ) (p : List ℕ) → IsBytes p → length p ≡ n → bytes_be n (number (reverse p)) ≡ p
be_back n p h size =
    ap (λ m. reverse (bytes_of m (number (reverse p)))) (sym (length-reverse p ∙ size))
    ∙ ap reverse (bytes_of-number (reverse p) (bytes-reverse p h)) ∙ reverse-reverse p

-- a number below the bound is that of its bytes
pub be_again : (n x : ℕ) → x < bound n → number (reverse (bytes_be n x)) ≡ x
be_again n x low = ap number (reverse-reverse (bytes_of n x)) ∙ number-bytes_of n x low
