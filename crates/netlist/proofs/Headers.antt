-- A header, field by field. Assumes nothing.
use Rattle.std.proofs.Common.{◌≡◌, ℕ, List, ap}
use Rattle.model.specs.NetlistFile.{count_of, finish_of, pulse_of}
use Rattle.netlist.specs.declared.header.Header.{Header}
use Rattle.netlist.specs.Headers.{header_of}

module _ (file : List ℕ) {h : Header} (e : h ≡ header_of file) where
  pub header-count : h.count ≡ count_of file
  header-count = ap (λ (x : Header). x.count) e

  pub header-finish : h.finish ≡ finish_of file
  header-finish = ap (λ (x : Header). x.finish) e

  pub header-pulse : h.pulse ≡ pulse_of file
  header-pulse = ap (λ (x : Header). x.pulse) e
