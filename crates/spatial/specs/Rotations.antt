-- 01, The float steps: quaternions and matrices.
use Rattle.spatial.specs.declared.Vector3.{Vector3}
use Rattle.spatial.specs.declared.Quaternion.{Quaternion}
use Rattle.spatial.specs.declared.Matrix3.{Matrix3}
use Rattle.std.specs.Float.Ieee.{neg}
use Rattle.spatial.specs.Float.{◌⊕◌, ◌⊖◌, ◌⊗◌}
use Rattle.spatial.specs.Constants.{two}
use Rattle.spatial.specs.Vectors.{vector_sum, scaled, crossed, dotted}

-- "Inverse of a quaternion: i, j, k negated"
unfoldable pub inverted : Quaternion → Quaternion
inverted q = record { w = q.w; i = neg q.i; j = neg q.j; k = neg q.k }

-- "w: ww'-ii'-jj'-kk'; i: wi'+iw'+jk'-kj'; j: wj'-ik'+jw'+ki'; k: wk'+ij'-ji'+kw'"
unfoldable pub multiplied : Quaternion → Quaternion → Quaternion
multiplied a b =
    record {
      w = a.w ⊗ b.w ⊖ a.i ⊗ b.i ⊖ a.j ⊗ b.j ⊖ a.k ⊗ b.k;
      i = a.w ⊗ b.i ⊕ a.i ⊗ b.w ⊕ a.j ⊗ b.k ⊖ a.k ⊗ b.j;
      j = a.w ⊗ b.j ⊖ a.i ⊗ b.k ⊕ a.j ⊗ b.w ⊕ a.k ⊗ b.i;
      k = a.w ⊗ b.k ⊕ a.i ⊗ b.j ⊖ a.j ⊗ b.i ⊕ a.k ⊗ b.w;
    }

-- "Quaternion on vector v, with u=(i,j,k): t = (u×v)2; result t w + u×t + v"
unfoldable pub rotated : Quaternion → Vector3 → Vector3
rotated q v =
    let u : Vector3 = record { x = q.i; y = q.j; z = q.k } in
    let t = scaled (crossed u v) two in
    vector_sum (vector_sum (scaled t q.w) (crossed u t)) v

-- "rows (ww+ii-jj-kk, ij-wk, wj+ik), (wk+ij, ww-ii+jj-kk, jk-wi), (ik-wj, wi+jk, ww-ii-jj+kk). Squares are plain products;
-- each mixed product is multiplied, then doubled"
unfoldable pub matrix_of : Quaternion → Matrix3
matrix_of q =
    let ww = q.w ⊗ q.w in
    let ii = q.i ⊗ q.i in
    let jj = q.j ⊗ q.j in
    let kk = q.k ⊗ q.k in
    let ij = q.i ⊗ q.j ⊗ two in
    let wk = q.w ⊗ q.k ⊗ two in
    let wj = q.w ⊗ q.j ⊗ two in
    let ik = q.i ⊗ q.k ⊗ two in
    let jk = q.j ⊗ q.k ⊗ two in
    let wi = q.w ⊗ q.i ⊗ two in
    record {
      x = record { x = ww ⊕ ii ⊖ jj ⊖ kk; y = ij ⊖ wk; z = wj ⊕ ik };
      y = record { x = wk ⊕ ij; y = ww ⊖ ii ⊕ jj ⊖ kk; z = jk ⊖ wi };
      z = record { x = ik ⊖ wj; y = wi ⊕ jk; z = ww ⊖ ii ⊖ jj ⊕ kk };
    }

-- a matrix on a vector, row by row
unfoldable pub transformed : Matrix3 → Vector3 → Vector3
transformed m v = record { x = dotted m.x v; y = dotted m.y v; z = dotted m.z v }
