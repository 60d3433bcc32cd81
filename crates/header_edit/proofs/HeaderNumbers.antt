-- The numbers of a header: which bytes they are read from, and how an edit changes them.
use Rattle.std.proofs.Common.{◌≡◌, ℕ, ◌+◌, ◌≤◌, ◌⊎◌, inl, inr, Bool, List, refl, lit≤}
use Rattle.packet_headers.specs.declared.items.ItemKind.{ItemKind}
use Rattle.packet_headers.specs.declared.items.ItemKind.TheVariants as kind
use Rattle.packet_headers.specs.Fields.{number_at}
use Rattle.packet_headers.specs.Layers.{header, header_len}

-- these bytes of a header aren't those of its checksum
abbrev pub IsOff : ItemKind → ℕ → ℕ → Type 0
IsOff kind.Ipv4 from count = (from + count ≤ 10) ⊎ (12 ≤ from)
IsOff kind.Tcp from count = (from + count ≤ 16) ⊎ (18 ≤ from)
IsOff kind.Udp from count = (from + count ≤ 6) ⊎ (8 ≤ from)
IsOff _ from count = Unit {0}

-- the bytes of a header that aren't those of its checksum hold the same numbers in both
abbrev pub SameNumbers : ItemKind → List ℕ → List ℕ → Type 0
SameNumbers k xs ys = (from count : ℕ) → from + count ≤ header_len k → IsOff k from count → number_at from count xs ≡ number_at from count ys

pub header-same : (k : ItemKind) (o : ℕ) (b : Bool) (xs ys : List ℕ) → SameNumbers k xs ys → header k o b xs ≡ header k o b ys
unfolding header
header-same kind.Void o b xs ys h = refl
header-same kind.Eth o b xs ys h =
    rw (h 0 6 (lit≤ tt) tt, h 6 6 (lit≤ tt) tt, h 12 2 (lit≤ tt) tt) refl
header-same kind.Vlan o b xs ys h = rw (h 0 2 (lit≤ tt) tt, h 2 2 (lit≤ tt) tt) refl
header-same kind.Ipv4 o b xs ys h =
    rw (h 1 1 (lit≤ tt) (inl (lit≤ tt)), h 8 1 (lit≤ tt) (inl (lit≤ tt)), h 9 1 (lit≤ tt) (inl (lit≤ tt)), h 12 4 (lit≤ tt) (inr (lit≤ tt)), h 16 4 (lit≤ tt) (inr (lit≤ tt))) refl
header-same kind.Ipv6 o b xs ys h =
    rw (h 0 4 (lit≤ tt) tt, h 6 1 (lit≤ tt) tt, h 7 1 (lit≤ tt) tt, h 8 16 (lit≤ tt) tt, h 24 16 (lit≤ tt) tt) refl
header-same kind.Tcp o b xs ys h =
    rw (h 0 2 (lit≤ tt) (inl (lit≤ tt)), h 2 2 (lit≤ tt) (inl (lit≤ tt)), h 13 1 (lit≤ tt) (inl (lit≤ tt))) refl
header-same kind.Udp o b xs ys h =
    rw (h 0 2 (lit≤ tt) (inl (lit≤ tt)), h 2 2 (lit≤ tt) (inl (lit≤ tt))) refl
header-same kind.Vxlan o b xs ys h = rw (h 4 3 (lit≤ tt) tt) refl
