-- In an outer stack with one network header that ends with its one transport header: which layer an
-- edit changes, and where the layers lie.
use Rattle.std.proofs.Common.{◌≡◌, ℕ, ◌≤◌, ◌⊎◌, inl, inr, Bool, true, false, nat_eq, if◌then◌else◌, Some, None, List, [], ◌∷◌, ◌++◌, append_assoc, unwrap_or, refl, sym, ap, ◌∙◌, subst}
use Rattle.std.proofs.lemmas.List.Elements.{recursion_from_All}
use Rattle.std.specs.List.{AllByRecursion}
use Rattle.packet_headers.specs.declared.items.ItemKind.{ItemKind}
use Rattle.packet_headers.specs.declared.items.ItemKind.TheVariants as kind
use Rattle.packet_headers.specs.declared.items.LayerAt.{LayerAt}
use Rattle.packet_headers.specs.Key.{is_of, kind_number}
use Rattle.packet_headers.specs.Layers.{LieWithin}
use Rattle.header_edit.specs.Layers.{first, is_transport}
use Rattle.header_edit.specs.Right.{is_network, is_link, AreLinks, EndsStack, IsOneStack}
use Rattle.header_edit.proofs.Members.{Member, end_of, member-lies}

-- the first layer of some kinds is in a front, or is the first of the rest
first-cases : (kinds : ItemKind → Bool) (xs ys : List LayerAt) (l : LayerAt) → first kinds (xs ++ ys) ≡ Some l → Member l xs ⊎ (first kinds ys ≡ Some l)
first-cases kinds [] ys l h = inr h
first-cases kinds (x ∷ xs) ys l h =
    let G : Type 0 = Member l (x ∷ xs) ⊎ (first kinds ys ≡ Some l) in
    let Q : Bool → Type 0 = λ b. (if b then None else (if kinds x.layer.kind then Some x else first kinds (xs ++ ys))) ≡ Some l → G in
    let R : Bool → Type 0 = λ b. (if b then Some x else first kinds (xs ++ ys)) ≡ Some l → G in
    let inner : (b : Bool) → R b = λ b. elim b as R [
      | true ↦ λ p. inl (inl (sym (ap (λ o. unwrap_or o x) p)))
      | false ↦ λ p. elim (first-cases kinds xs ys l p) [ inl q ↦ inl (inr q) | inr q ↦ inr q ]
    ] in
    let outer : (b : Bool) → Q b = λ b. elim b as Q [ true ↦ λ p. absurd (cc) | false ↦ inner (kinds x.layer.kind) ] in
    outer (is_of kind.Vxlan x) h

vxlan-number : (k : ItemKind) → k ≡ kind.Vxlan → nat_eq (kind_number k) 7 ≡ true
vxlan-number k e = ap (λ x. nat_eq (kind_number x) 7) e

first-ends : (kinds : ItemKind → Bool) (ls : List LayerAt) (l : LayerAt) → EndsStack ls → first kinds ls ≡ Some l → ⊥
first-ends kinds [] l h e = absurd (cc)
first-ends kinds (x ∷ xs) l h e =
    let none : first kinds (x ∷ xs) ≡ None = ap (λ b. if b then None else (if kinds x.layer.kind then Some x else first kinds xs)) (vxlan-number x.layer.kind h) in
    absurd (cc)

-- layers that aren't of these kinds are passed over
abbrev Past : (ItemKind → Bool) → LayerAt → Type 0
Past kinds l = (is_of kind.Vxlan l ≡ false) × (kinds l.layer.kind ≡ false)

first-past : (kinds : ItemKind → Bool) (l : LayerAt) (ls : List LayerAt) → Past kinds l → first kinds (l ∷ ls) ≡ first kinds ls
first-past kinds l ls h =
    ap (λ b. if b then None else (if kinds l.layer.kind then Some l else first kinds ls)) h.0
    ∙ ap (λ b. if b then Some l else first kinds ls) h.1

link-past : (k : ItemKind) → is_link k ≡ true → (nat_eq (kind_number k) 7 ≡ false) × (is_transport k ≡ false)
link-past kind.Void h = (refl, refl)
link-past kind.Eth h = (refl, refl)
link-past kind.Vlan h = (refl, refl)
link-past _ h = absurd (cc)

network-past : (k : ItemKind) → is_network k ≡ true → (nat_eq (kind_number k) 7 ≡ false) × (is_transport k ≡ false)
network-past kind.Ipv4 h = (refl, refl)
network-past kind.Ipv6 h = (refl, refl)
network-past _ h = absurd (cc)

transport-here : (k : ItemKind) → is_transport k ≡ true → nat_eq (kind_number k) 7 ≡ false
transport-here kind.Tcp h = refl
transport-here kind.Udp h = refl
transport-here _ h = absurd (cc)

abbrev Links : List LayerAt → Type 0
Links ls = AllByRecursion (λ (l : LayerAt). is_link l.layer.kind ≡ true) ls

links : (ls : List LayerAt) → AreLinks ls → Links ls
links ls h = recursion_from_All (λ (l : LayerAt). is_link l.layer.kind ≡ true) ls h

first-links : (ls ms : List LayerAt) → Links ls → first is_transport (ls ++ ms) ≡ first is_transport ms
first-links [] ms h = refl
first-links (l ∷ ls) ms h = first-past is_transport l (ls ++ ms) (link-past l.layer.kind h.0) ∙ first-links ls ms h.1

link-member : (l : LayerAt) (ls : List LayerAt) → Links ls → Member l ls → is_link l.layer.kind ≡ true
link-member l [] h q = absurd q
link-member l (x ∷ xs) h (inl e) = subst (λ y. is_link y.layer.kind ≡ true) (sym e) h.0
link-member l (x ∷ xs) h (inr q) = link-member l xs h.1 q

link-or-same : (l n : LayerAt) (below between : List LayerAt) → Links below → Links between → Member l (below ++ n ∷ between)
    → (is_link l.layer.kind ≡ true) ⊎ (l ≡ n)
link-or-same l n [] between h k (inl e) = inr e
link-or-same l n [] between h k (inr q) = inl (link-member l between k q)
link-or-same l n (x ∷ xs) between h k (inl e) = inl (subst (λ y. is_link y.layer.kind ≡ true) (sym e) h.0)
link-or-same l n (x ∷ xs) between h k (inr q) = link-or-same l n xs between h.1 k q

pub member-left : (l : LayerAt) (xs ys : List LayerAt) → Member l xs → Member l (xs ++ ys)
member-left l [] ys q = absurd q
member-left l (x ∷ xs) ys (inl e) = inl e
member-left l (x ∷ xs) ys (inr q) = inr (member-left l xs ys q)

pub member-here : (xs ys : List LayerAt) (l : LayerAt) → Member l (xs ++ l ∷ ys)
member-here [] ys l = inl refl
member-here (x ∷ xs) ys l = inr (member-here xs ys l)

-- a layer in front of another ends before it
pub front-ends : (from end : ℕ) (m t : LayerAt) (xs ys : List LayerAt) → LieWithin from end (xs ++ t ∷ ys) → Member m xs → end_of m ≤ t.offset
front-ends from end m t [] ys w q = absurd q
front-ends from end m t (x ∷ xs) ys w (inl e) =
    subst (λ y. end_of y ≤ t.offset) (sym e) (member-lies (end_of x) end t (xs ++ t ∷ ys) w.2 (member-here xs ys t)).0
front-ends from end m t (x ∷ xs) ys w (inr q) = front-ends (end_of x) end m t xs ys w.2 q

module _ (below between behind : List LayerAt) (n t : LayerAt) (stack : IsOneStack below n between t behind) where
  -- the transport checksum is that of the stack's last header
  pub first-transport : first is_transport (below ++ n ∷ between ++ t ∷ behind) ≡ Some t
  first-transport =
      let p : first is_transport (below ++ (n ∷ (between ++ t ∷ behind))) ≡ Some t =
      first-links below (n ∷ (between ++ t ∷ behind)) (links below stack.links_below)
      ∙ (first-past is_transport n (between ++ t ∷ behind) (network-past n.layer.kind stack.network_is)
      ∙ (first-links between (t ∷ behind) (links between stack.links_between)
      ∙ (ap (λ b. if b then None else (if is_transport t.layer.kind then Some t else first is_transport behind)) (transport-here t.layer.kind stack.transport_is)
      ∙ ap (λ b. if b then Some t else first is_transport behind) stack.transport_is))) in
      ap (first is_transport) (append_assoc below (n ∷ between) (t ∷ behind)) ∙ p

  -- a layer that an edit changes
  pub first-where : (kinds : ItemKind → Bool) (l : LayerAt) → first kinds (below ++ n ∷ between ++ t ∷ behind) ≡ Some l
      → (Member l (below ++ n ∷ between) × ((is_link l.layer.kind ≡ true) ⊎ (l ≡ n))) ⊎ (l ≡ t)
  first-where kinds l h =
      elim (first-cases kinds (below ++ n ∷ between) (t ∷ behind) l h) [
        | inl q ↦ inl (q, link-or-same l n below between (links below stack.links_below) (links between stack.links_between) q)
        | inr p ↦ elim (first-cases kinds (t ∷ []) behind l p) [
          | inl q ↦ elim q [ inl e ↦ inr e | inr f ↦ absurd f ]
          | inr r ↦ absurd (first-ends kinds behind l stack.ends r)
        ]
      ]
