-- Cartan matrices.
use Rattle.sp_fock_law.specs.Grid.{GridValue}
use Rattle.sp_grid_law.specs.Products.{product}
use Rattle.sp_grid_law.specs.Tables.{transposed}

-- The transpose of a decomposition matrix times that matrix: at lambda and mu it has the composition factors of the
-- projective module of mu that are the simple module of lambda.
-- (Curtis and Reiner, Methods of Representation Theory, vol. I, section 18; Mathas, Iwahori-Hecke Algebras and Schur
-- Algebras of the Symmetric Group, ch. 2)
abbrev pub cartan_of : GridValue → GridValue
cartan_of g = product (transposed g) g
